use Rattle.std.proofs.Common.{refl, arith, sym, subst}
use Rattle.pp_sld.specs.Ways.{next}
use Rattle.pp_walk.specs.Walking.{state, Goes}
use Rattle.pp_walk.specs.declared.stage.Stage.TheVariants.{Enter}
use Rattle.pp_walk.proofs.Marks.{on_err}
use Rattle.pp_walk.proofs.Turns.{went, at_choice, failed, met_answer, met_loose, answer_under, loose_under, step_costs}
use Rattle.pp_walk.proofs.walk.enter.Goals as goal

pub returns-in_err-step-clause-costs : goal.returns-in_err-step-clause-costs
returns-in_err-step-clause-costs g c =
    on_err c.from_residual.result (λ ks. step_costs (g.M.SearchMachine.clauses c.args.machine.now) (g.G.Gatherer.mode c.args.gathered.now) (g.G.Gatherer.call c.args.gathered.now) (g.M.SearchMachine.place c.args.machine.now) ks (g.G.Gatherer.finding c.args.gathered.now) c.args.steps.now c.step.new.steps
    (next (g.M.SearchMachine.clauses c.args.machine.now) (g.M.SearchMachine.place c.args.machine.now).here) refl c.in_err-step.ensures.at_most)

pub gather_answer-requires : goal.gather_answer-requires
gather_answer-requires g c =
    answer_under (g.M.SearchMachine.clauses c.args.machine.now) (g.G.Gatherer.mode c.args.gathered.now) (g.G.Gatherer.call c.args.gathered.now) (g.M.SearchMachine.place c.args.machine.now) (g.M.SearchMachine.place c.step.new.self)
    (rw c.in-Answer.is at c.in_ok-step.ensures.stepped) c.requires

pub gather_loose-requires : goal.gather_loose-requires
gather_loose-requires g c =
    loose_under (g.M.SearchMachine.clauses c.args.machine.now) (g.G.Gatherer.mode c.args.gathered.now) (g.G.Gatherer.call c.args.gathered.now) (g.M.SearchMachine.place c.args.machine.now) (g.M.SearchMachine.place c.step.new.self)
    (rw c.in-Loose.is at c.in_ok-step.ensures.stepped) c.requires

pub returns-in_err-gather_answer-in-Answer-clause-costs :
    goal.returns-in_err-gather_answer-in-Answer-clause-costs
returns-in_err-gather_answer-in-Answer-clause-costs g c =
    on_err c.from_residual-in_err-gather_answer-in-Answer.result (λ ks. step_costs (g.M.SearchMachine.clauses c.args.machine.now) (g.G.Gatherer.mode c.args.gathered.now) (g.G.Gatherer.call c.args.gathered.now) (g.M.SearchMachine.place c.args.machine.now) ks (g.G.Gatherer.finding c.args.gathered.now) c.args.steps.now c.step.new.steps
    (next (g.M.SearchMachine.clauses c.args.machine.now) (g.M.SearchMachine.place c.args.machine.now).here) refl (omega (arith, c.in_ok-step.ensures.steps)))

pub returns-in_err-gather_loose-in-Loose-clause-costs :
    goal.returns-in_err-gather_loose-in-Loose-clause-costs
returns-in_err-gather_loose-in-Loose-clause-costs g c =
    on_err c.from_residual-in_err-gather_loose-in-Loose.result (λ ks. step_costs (g.M.SearchMachine.clauses c.args.machine.now) (g.G.Gatherer.mode c.args.gathered.now) (g.G.Gatherer.call c.args.gathered.now) (g.M.SearchMachine.place c.args.machine.now) ks (g.G.Gatherer.finding c.args.gathered.now) c.args.steps.now c.step.new.steps
    (next (g.M.SearchMachine.clauses c.args.machine.now) (g.M.SearchMachine.place c.args.machine.now).here) refl (omega (arith, c.in_ok-step.ensures.steps)))

pub returns-in-Went-clause-turns : goal.returns-in-Went-clause-turns
returns-in-Went-clause-turns g c = λ ks r.
    went (g.M.SearchMachine.clauses c.args.machine.now) (g.G.Gatherer.mode c.args.gathered.now) (g.G.Gatherer.call c.args.gathered.now) (g.M.SearchMachine.place c.args.machine.now) (g.M.SearchMachine.place c.step.new.self) ks (g.G.Gatherer.finding c.args.gathered.now) c.args.steps.now c.step.new.steps
    c.in_ok-step.ensures.steps r (rw c.in-Went.is at c.in_ok-step.ensures.stepped)

pub returns-in-Choice-clause-turns : goal.returns-in-Choice-clause-turns
returns-in-Choice-clause-turns g c = λ ks r.
    subst (λ x. Goes (g.M.SearchMachine.clauses c.args.machine.now) (g.G.Gatherer.mode c.args.gathered.now) (g.G.Gatherer.call c.args.gathered.now) (state Enter (g.M.SearchMachine.place c.args.machine.now) ks (g.G.Gatherer.finding c.args.gathered.now) c.args.steps.now) (state x (g.M.SearchMachine.place c.step.new.self) ks (g.G.Gatherer.finding c.args.gathered.now) c.step.new.steps)) (sym c.first_of.ensures.first)
    (at_choice (g.M.SearchMachine.clauses c.args.machine.now) (g.G.Gatherer.mode c.args.gathered.now) (g.G.Gatherer.call c.args.gathered.now) (g.M.SearchMachine.place c.args.machine.now) (g.M.SearchMachine.place c.step.new.self) ks (g.G.Gatherer.finding c.args.gathered.now) c.args.steps.now c.step.new.steps
    c.in_ok-step.ensures.steps r c.in-Choice.count c.first_of.ensures.counted (rw c.in-Choice.is at c.in_ok-step.ensures.stepped))

pub returns-in-Failed-clause-turns : goal.returns-in-Failed-clause-turns
returns-in-Failed-clause-turns g c = λ ks r.
    failed (g.M.SearchMachine.clauses c.args.machine.now) (g.G.Gatherer.mode c.args.gathered.now) (g.G.Gatherer.call c.args.gathered.now) (g.M.SearchMachine.place c.args.machine.now) (g.M.SearchMachine.place c.step.new.self) ks (g.G.Gatherer.finding c.args.gathered.now) c.args.steps.now c.step.new.steps
    c.in_ok-step.ensures.steps r (rw c.in-Failed.is at c.in_ok-step.ensures.stepped)

pub returns-in_ok-gather_answer-in-Answer-clause-turns :
    goal.returns-in_ok-gather_answer-in-Answer-clause-turns
returns-in_ok-gather_answer-in-Answer-clause-turns g c = λ ks r.
    met_answer (g.M.SearchMachine.clauses c.args.machine.now) (g.G.Gatherer.mode c.args.gathered.now) (g.G.Gatherer.call c.args.gathered.now) c.after_leaf.result (g.M.SearchMachine.place c.args.machine.now) (g.M.SearchMachine.place c.step.new.self) (g.M.SearchMachine.place c.gather_answer.new.machine) ks (g.G.Gatherer.finding c.args.gathered.now) (g.G.Gatherer.finding c.gather_answer.new.gathered) c.args.steps.now c.step.new.steps c.in_ok-gather_answer-in-Answer.ensures.place
    c.in_ok-step.ensures.steps r (rw c.in-Answer.is at c.in_ok-step.ensures.stepped) c.in_ok-gather_answer-in-Answer.ensures.added (rw c.in_ok-gather_answer-in-Answer.ensures.call at c.after_leaf.ensures)

pub returns-in_ok-gather_loose-in-Loose-clause-turns :
    goal.returns-in_ok-gather_loose-in-Loose-clause-turns
returns-in_ok-gather_loose-in-Loose-clause-turns g c = λ ks r.
    met_loose (g.M.SearchMachine.clauses c.args.machine.now) (g.G.Gatherer.mode c.args.gathered.now) (g.G.Gatherer.call c.args.gathered.now) c.after_leaf-in-Loose.result (g.M.SearchMachine.place c.args.machine.now) (g.M.SearchMachine.place c.step.new.self) (g.M.SearchMachine.place c.gather_loose.new.machine) ks (g.G.Gatherer.finding c.args.gathered.now) (g.G.Gatherer.finding c.gather_loose.new.gathered) c.args.steps.now c.step.new.steps c.in_ok-gather_loose-in-Loose.ensures.place
    c.in_ok-step.ensures.steps r (rw c.in-Loose.is at c.in_ok-step.ensures.stepped) c.in_ok-gather_loose-in-Loose.ensures.added (rw c.in_ok-gather_loose-in-Loose.ensures.call at c.after_leaf-in-Loose.ensures)
