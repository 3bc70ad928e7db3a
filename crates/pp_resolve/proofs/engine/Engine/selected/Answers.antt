use Rattle.std.proofs.Common.{Some, subst}
use Rattle.pp_resolve.specs.Kept.{kept_of}
use Rattle.pp_resolve.specs.Engines.{goal_of, row_of, IsKnown}
use Rattle.pp_resolve.specs.Events.{selected_as}
use Rattle.pp_resolve.proofs.Woken.{met_selected}
use Rattle.pp_resolve.proofs.engine.Engine.selected.Goals as goal

pub returns-in-Some : goal.returns-in-Some
returns-in-Some c =
    let e = c.args.self.now in
    let known = subst (IsKnown e.clauses.now (goal_of e) (row_of e) (kept_of e.history) e.front) c.in-Some.is c.requires.good.here.known in
    met_selected e c.requires.good c.in-Some.selected known c.rest_at.result c.rest_at.ensures

pub returns-in-Some-woken_from : goal.returns-in-Some-woken_from
returns-in-Some-woken_from c =
    let w = c.in-Some-woken_from in
    met_selected c.args.self.now c.requires.good (selected_as (Some w.at) w.act) w.ensures c.rest_at-in-Some-woken_from.result c.rest_at-in-Some-woken_from.ensures
