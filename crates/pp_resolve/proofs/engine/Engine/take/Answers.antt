use Rattle.std.proofs.Common.{◌∙◌, subst}
use Rattle.std.proofs.lemmas.Result.{IfOk-weaker}
use Rattle.pp_walk.proofs.Marks.{map_err}
use Rattle.pp_resolve.specs.Engines.{Finds}
use Rattle.pp_resolve.specs.Events.{Took}
use Rattle.pp_resolve.proofs.Choosing.{choice_same, ended_chooses, took_from}
use Rattle.pp_resolve.proofs.engine.Engine.take.Goals as goal

pub take_by-requires-clause-met : goal.take_by-requires-clause-met
take_by-requires-clause-met c = subst (Finds c.select.new.self) c.in-Some.is c.in_ok-select.ensures.found

pub take_by-requires-clause-choice : goal.take_by-requires-clause-choice
take_by-requires-clause-choice c = choice_same c.args.self.now c.select.new.self c.args.place c.select.ensures.same c.requires.choice

pub returns-in-None-clause-took : goal.returns-in-None-clause-took
returns-in-None-clause-took c =
    let mid = c.select.new.self in
    let none = subst (Finds mid) c.in-None.is c.in_ok-select.ensures.found in
    absurd (ended_chooses mid c.args.place c.select.ensures.same.good none.0 none.1 (choice_same c.args.self.now mid c.args.place c.select.ensures.same c.requires.choice))

pub returns-in-Some-clause-took : goal.returns-in-Some-clause-took
returns-in-Some-clause-took c =
    let e = c.args.self.now in
    let mid = c.select.new.self in
    IfOk-weaker c.take_by.result (λ x. Took mid c.args.place x c.take_by.new.self) (λ x. Took e c.args.place x c.take_by.new.self) (λ x h. took_from e mid c.take_by.new.self c.args.place x c.select.ensures.same h) c.take_by.ensures.took

pub returns-in-Some-clause-err : goal.returns-in-Some-clause-err
returns-in-Some-clause-err c = map_err c.take_by.result (λ h. h ∙ c.select.ensures.same.place) c.take_by.ensures.err
