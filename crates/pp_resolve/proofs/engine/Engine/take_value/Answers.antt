use Rattle.std.proofs.Common.{sym, subst, to_z, of_z, w64, IfOk}
use Rattle.std.proofs.lemmas.Result.{IfOk-weaker}
use Rattle.pp_algebra.specs.Members.{IsInteger}
use Rattle.pp_goal.specs.declared.acts.Act.TheVariants.{Bind}
use Rattle.pp_resolve.specs.Events.{Solved}
use Rattle.pp_resolve.proofs.Moving.{goal_over_at, rest_at_place}
use Rattle.pp_resolve.proofs.Words.{value_back}
use Rattle.pp_resolve.proofs.Choosing.{split_one, split_place, split_ready, split_took}
use Rattle.pp_resolve.proofs.engine.Engine.take_value.Goals as goal

pub goal-requires-clause-rest : goal.goal-requires-clause-rest
goal-requires-clause-rest c = (rest_at_place c.args.self.now c.args.at c.rest_at-rest.result c.requires.good c.requires.met.there c.rest_at-rest.ensures).0

pub goal-requires-clause-over : goal.goal-requires-clause-over
goal-requires-clause-over c = λ g. goal_over_at c.args.self.now c.args.at c.rest_at-rest.result g c.requires.good c.requires.met.there c.rest_at-rest.ensures

pub split_value-value-requires-clause-one : goal.split_value-value-requires-clause-one
split_value-value-requires-clause-one c = split_one c.args.self.now c.requires.good c.args.at c.requires.met c.rest_at-rest.result c.rest_at-rest.ensures c.goal.result c.goal.ensures.shown

pub split_value-value-requires-clause-place : goal.split_value-value-requires-clause-place
split_value-value-requires-clause-place c = split_place c.args.self.now c.requires.good c.args.at c.requires.met c.rest_at-rest.result c.rest_at-rest.ensures c.goal.result c.goal.ensures.shown c.args.place c.requires.choice

pub solve_at-requires-clause-ready : goal.solve_at-requires-clause-ready
solve_at-requires-clause-ready c =
    let v = c.split_value-value.result in
    let back = value_back v c.split_value-value.ensures.integer in
    split_ready c.args.self.now c.requires.good c.args.at c.requires.met c.rest_at-rest.result c.rest_at-rest.ensures c.goal.result c.goal.ensures.shown (to_z w64 (of_z w64 v)) (subst IsInteger (sym back) c.split_value-value.ensures.integer)

pub returns-clause-took : goal.returns-clause-took
returns-clause-took c =
    let e = c.args.self.now in
    let n = c.solve_at.new.self in
    let v = c.split_value-value.result in
    let back = value_back v c.split_value-value.ensures.integer in
    let solved = subst (λ m. IfOk c.solve_at.result (λ b. Solved e c.args.at (Bind 0 m) b n)) back c.solve_at.ensures.solved in
    IfOk-weaker _ (λ b. Solved e c.args.at (Bind 0 v) b n) _
    (split_took e c.requires.good c.args.at c.requires.met c.rest_at-rest.result c.rest_at-rest.ensures c.goal.result c.goal.ensures.shown c.args.place c.requires.choice v c.split_value-value.ensures.value n) solved
