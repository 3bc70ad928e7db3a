use Rattle.std.proofs.Common.{length}
use Rattle.pp_resolve.specs.Links.{IsRest, goals_in}
use Rattle.pp_resolve.specs.Engines.{goal_of}
use Rattle.pp_resolve.proofs.Woken.{Passed}
use Rattle.pp_resolve.proofs.engine.Engine.ready.Given as goal

abbrev pub invariant-loop-rest : goal.invariant-loop-rest
invariant-loop-rest l = record {
  rest : IsRest l.fn.self.clauses.now (goal_of l.fn.self) (length l.fn.self.history.links.items) l.rest;
  passed : Passed l.fn.self l.rest;
}

abbrev pub decreases-loop-rest : goal.decreases-loop-rest
decreases-loop-rest l = length (goals_in l.fn.self.clauses.now (goal_of l.fn.self) l.fn.self.history.links.items l.rest)
