use Rattle.std.proofs.Common.{length, ap, sym, ◌∙◌}
use Rattle.pp_algebra.specs.Terms.{count, put_all}
use Rattle.pp_sld.specs.Ways.{values_of}
use Rattle.pp_term.specs.Meanings.{program}
use Rattle.pp_unify.specs.States.{value_in}
use Rattle.pp_unify.specs.Forests.{counted_all}
use Rattle.pp_goal.specs.declared.acts.Act.TheVariants.{Split}
use Rattle.pp_walk.specs.Moves.{step_cost}
use Rattle.pp_resolve.specs.Engines.{row_of, place_of}
use Rattle.pp_resolve.specs.Events.{selected_as}
use Rattle.pp_resolve.proofs.Moving.{goal_over_at, rest_at_place}
use Rattle.pp_resolve.proofs.Stepping.{item_there, at_split, met}
use Rattle.pp_resolve.proofs.engine.Engine.meet_split.Goals as goal

pub goal-requires-clause-rest : goal.goal-requires-clause-rest
goal-requires-clause-rest c = (rest_at_place c.args.self.now c.args.at c.rest_at-rest.result c.requires.good c.requires.met.there c.rest_at-rest.ensures).0

pub goal-requires-clause-over : goal.goal-requires-clause-over
goal-requires-clause-over c = λ g. goal_over_at c.args.self.now c.args.at c.rest_at-rest.result g c.requires.good c.requires.met.there c.rest_at-rest.ensures

pub split_count-requires-clause-one : goal.split_count-requires-clause-one
split_count-requires-clause-one c =
    let e = c.args.self.now in
    let m = c.requires.met in
    let l = c.rest_at-rest.result in
    let g = item_there e c.args.at l c.requires.good m.there c.rest_at-rest.ensures in
    ap count (c.goal.ensures.shown g.0 g.1).arguments ∙ (m.looks l c.rest_at-rest.ensures g.0 g.1).1

pub returns-clause-stepped : goal.returns-clause-stepped
returns-clause-stepped c =
    let e = c.args.self.now in
    let m = c.requires.met in
    let l = c.rest_at-rest.result in
    let b = c.rest_at-rest.ensures in
    let g = item_there e c.args.at l c.requires.good m.there b in
    let k = at_split e c.requires.good (selected_as c.args.at Split) m l b g.0 g.1 (m.looks l b g.0 g.1).0 in
    let size = c.split_count.ensures ∙ ap (λ ts. length (values_of (row_of e).domains (put_all (value_in (row_of e)) (counted_all l.first ts)))) (c.goal.ensures.shown g.0 g.1).arguments in
    met (program e.clauses.now) (place_of e) c.split_count.result c.alternatives.result c.alternatives.ensures (k.0, k.1, k.2 ∙ sym size)

pub returns-clause-cost : goal.returns-clause-cost
returns-clause-cost c =
    let e = c.args.self.now in
    let m = c.requires.met in
    let l = c.rest_at-rest.result in
    let b = c.rest_at-rest.ensures in
    let g = item_there e c.args.at l c.requires.good m.there b in
    ap step_cost (at_split e c.requires.good (selected_as c.args.at Split) m l b g.0 g.1 (m.looks l b g.0 g.1).0).1
