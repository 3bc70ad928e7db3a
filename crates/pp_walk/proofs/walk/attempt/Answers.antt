use Rattle.std.proofs.Common.{◌≡◌, ◌∷◌, reverse, arith, ap, sym, subst, ◌∙◌, ◌+◌, []}
use Rattle.std.proofs.lemmas.List.{reverse-append}
use Rattle.pp_walk.specs.Walking.{state, Goes}
use Rattle.pp_walk.specs.declared.stage.Stage.TheVariants.{Enter, Try}
use Rattle.pp_walk.proofs.Marks.{on_err}
use Rattle.pp_walk.proofs.Turns.{exhausted, tried_goes, tried_fails, committed_goes, committed_fails, try_costs}
use Rattle.pp_walk.proofs.walk.attempt.Goals as goal

pub returns-in-Nothing-clause-goes : goal.returns-in-Nothing-clause-goes
returns-in-Nothing-clause-goes g c = λ m call f r.
    exhausted (g.M.SearchMachine.clauses c.args.machine.now) m call (g.M.SearchMachine.place c.args.machine.now) c.args.from (reverse c.args.levels.now.items) f c.args.steps.now (rw c.in-Nothing.is at c.next_from.ensures) r

pub returns-in_err-goes-in-Last-clause-costs : goal.returns-in_err-goes-in-Last-clause-costs
returns-in_err-goes-in-Last-clause-costs g c =
    on_err c.from_residual.result (λ m call f. try_costs (g.M.SearchMachine.clauses c.args.machine.now) m call (g.M.SearchMachine.place c.args.machine.now) c.args.from (reverse c.args.levels.now.items) f c.args.steps.now c.in-Last.at (rw c.in-Last.is at c.next_from.ensures).0 c.commit.new.steps c.in_err-goes-in-Last.ensures.at_most)

pub returns-then-goes-clause-goes : goal.returns-then-goes-clause-goes
returns-then-goes-clause-goes g c = λ m call f r.
    committed_goes (g.M.SearchMachine.clauses c.args.machine.now) m call (g.M.SearchMachine.place c.args.machine.now) c.args.from (reverse c.args.levels.now.items) f c.args.steps.now c.in-Last.at (rw c.in-Last.is at c.next_from.ensures).0 (c.in-Last.at + 1) (omega arith) ((rw c.in-Last.is at c.next_from.ensures).1)
    (g.M.SearchMachine.place c.commit.new.self) c.commit.new.steps (rw c.if-goes.true at c.in_ok-goes-in-Last.ensures.committed) (omega (arith, c.in_ok-goes-in-Last.ensures.steps)) r

pub returns-else-goes-clause-goes : goal.returns-else-goes-clause-goes
returns-else-goes-clause-goes g c = λ m call f r.
    committed_fails (g.M.SearchMachine.clauses c.args.machine.now) m call (g.M.SearchMachine.place c.args.machine.now) c.args.from (reverse c.args.levels.now.items) f c.args.steps.now c.in-Last.at (rw c.in-Last.is at c.next_from.ensures).0 (c.in-Last.at + 1) (omega arith) ((rw c.in-Last.is at c.next_from.ensures).1)
    (g.M.SearchMachine.place c.commit.new.self) c.commit.new.steps (rw c.if-goes.false at c.in_ok-goes-in-Last.ensures.committed) (omega (arith, c.in_ok-goes-in-Last.ensures.steps)) r

pub returns-in_err-choose-clause-costs : goal.returns-in_err-choose-clause-costs
returns-in_err-choose-clause-costs g c =
    on_err c.from_residual-in_err-choose.result (λ m call f. try_costs (g.M.SearchMachine.clauses c.args.machine.now) m call (g.M.SearchMachine.place c.args.machine.now) c.args.from (reverse c.args.levels.now.items) f c.args.steps.now c.in-At.at (rw c.in-At.is at c.next_from.ensures) c.choose.new.steps c.in_err-choose.ensures.at_most)

pub returns-then-not-branch-clause-goes : goal.returns-then-not-branch-clause-goes
returns-then-not-branch-clause-goes g c = λ m call f r.
    tried_fails (g.M.SearchMachine.clauses c.args.machine.now) m call (g.M.SearchMachine.place c.args.machine.now) c.args.from (reverse c.args.levels.now.items) f c.args.steps.now c.in-At.at (rw c.in-At.is at c.next_from.ensures) (c.in-At.at + 1) (omega arith)
    (g.M.SearchMachine.place c.choose.new.self) c.choose.new.steps (rw c.if-not-branch.true at c.in_ok-choose.ensures.chose) (omega (arith, c.in_ok-choose.ensures.steps)) r

pub returns-in_err-push-clause-costs : goal.returns-in_err-push-clause-costs
returns-in_err-push-clause-costs g c =
    on_err c.from_residual-in_err-push.result (λ m call f. try_costs (g.M.SearchMachine.clauses c.args.machine.now) m call (g.M.SearchMachine.place c.args.machine.now) c.args.from (reverse c.args.levels.now.items) f c.args.steps.now c.in-At.at (rw c.in-At.is at c.next_from.ensures) c.choose.new.steps (omega (arith, c.in_ok-choose.ensures.steps)))

pub returns-clause-goes : goal.returns-clause-goes
returns-clause-goes g c = λ m call f r.
    let e : reverse c.push.new.self.items ≡ (c.in-At.at + 1) ∷ reverse c.args.levels.now.items = ap reverse c.in_ok-push.ensures.items ∙ reverse-append c.args.levels.now.items ((c.in-At.at + 1) ∷ []) in
    subst (λ x. Goes (g.M.SearchMachine.clauses c.args.machine.now) m call (state (Try c.args.from) (g.M.SearchMachine.place c.args.machine.now) (reverse c.args.levels.now.items) f c.args.steps.now) (state Enter (g.M.SearchMachine.place c.choose.new.self) x f c.choose.new.steps)) (sym e)
    (tried_goes (g.M.SearchMachine.clauses c.args.machine.now) m call (g.M.SearchMachine.place c.args.machine.now) c.args.from (reverse c.args.levels.now.items) f c.args.steps.now c.in-At.at (rw c.in-At.is at c.next_from.ensures) (c.in-At.at + 1) (omega arith)
    (g.M.SearchMachine.place c.choose.new.self) c.choose.new.steps (rw c.if-not-branch.false at c.in_ok-choose.ensures.chose) (omega (arith, c.in_ok-choose.ensures.steps)) r)
