use Rattle.std.proofs.Common.{arith}
use Rattle.pp_resolve.specs.Engines.{goal_of}
use Rattle.pp_resolve.proofs.Waits.{above_bound}
use Rattle.pp_resolve.proofs.engine.Engine.bound.Goals as goal

pub returns-in-Some-clause-below : goal.returns-in-Some-clause-below
returns-in-Some-clause-below c =
    let e = c.args.self.now in
    above_bound e.clauses.now (goal_of e) c.own_bound-own.result c.max.result e.front.rest (omega (arith, c.max.ensures)) c.own_bound-own.ensures.below
