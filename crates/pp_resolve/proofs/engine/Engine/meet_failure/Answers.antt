use Rattle.std.proofs.Common.{ap, refl, inl}
use Rattle.pp_walk.specs.Moves.{step_cost}
use Rattle.pp_goal.specs.declared.acts.Act.TheVariants.{Fail}
use Rattle.pp_resolve.specs.Events.{selected_as}
use Rattle.pp_resolve.proofs.Stepping.{begins_at, item_there, at_refused}
use Rattle.pp_resolve.proofs.engine.Engine.meet_failure.Goals as goal

pub returns-clause-stepped : goal.returns-clause-stepped
returns-clause-stepped c =
    let e = c.args.self.now in
    let m = c.requires.met in
    let l = begins_at e c.args._at m.there in
    let g = item_there e c.args._at l.0 c.requires.good m.there l.1 in
    (inl (at_refused e c.requires.good (selected_as c.args._at Fail) m l.0 l.1 g.0 g.1 (m.looks l.0 l.1 g.0 g.1).0), refl)

pub returns-clause-cost : goal.returns-clause-cost
returns-clause-cost c =
    let e = c.args.self.now in
    let m = c.requires.met in
    let l = begins_at e c.args._at m.there in
    let g = item_there e c.args._at l.0 c.requires.good m.there l.1 in
    ap step_cost (at_refused e c.requires.good (selected_as c.args._at Fail) m l.0 l.1 g.0 g.1 (m.looks l.0 l.1 g.0 g.1).0)
