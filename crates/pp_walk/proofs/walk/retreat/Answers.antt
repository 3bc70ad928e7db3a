use Rattle.std.proofs.Common.{◌∷◌, [], reverse, arith, ap, sym, subst, ◌∙◌}
use Rattle.std.proofs.lemmas.List.{reverse-append, nil_from_length}
use Rattle.pp_walk.specs.Walking.{state, Turns}
use Rattle.pp_walk.specs.declared.stage.Stage.TheVariants.{Back}
use Rattle.pp_walk.proofs.Turns.{at_root, went_back}
use Rattle.pp_walk.proofs.walk.retreat.Goals as goal

pub returns-in_err-next-clause-turns : goal.returns-in_err-next-clause-turns
returns-in_err-next-clause-turns g c = λ m call f n r.
    subst (λ x. Turns (g.M.SearchMachine.clauses c.args.machine.now) m call (state Back (g.M.SearchMachine.place c.args.machine.now) (reverse c.args.levels.now.items) f n) x (g.M.SearchMachine.place c.args.machine.now) (reverse c.pop.new.self.items) f n) (sym c.from_residual.ensures)
    (at_root (g.M.SearchMachine.clauses c.args.machine.now) m call (g.M.SearchMachine.place c.args.machine.now) (reverse c.args.levels.now.items) f n (ap reverse (nil_from_length c.args.levels.now.items (omega (arith, c.args.levels.now.ok.0, c.in_err-next.ensures.cases.0)))) c.requires)

pub returns-clause-turns : goal.returns-clause-turns
returns-clause-turns g c = λ m call f n r.
    went_back (g.M.SearchMachine.clauses c.args.machine.now) m call (g.M.SearchMachine.place c.args.machine.now) (g.M.SearchMachine.place c.back.new.self) c.back.result c.in_ok-next.next (reverse c.pop.new.self.items) (reverse c.args.levels.now.items) f n
    (ap reverse c.in_ok-next.ensures.items ∙ reverse-append c.pop.new.self.items (c.in_ok-next.next ∷ [])) c.back.ensures.back r
