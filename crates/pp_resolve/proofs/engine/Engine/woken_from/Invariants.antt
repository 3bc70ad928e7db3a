use Rattle.pp_resolve.specs.Engines.{WaitBefore}
use Rattle.pp_resolve.proofs.engine.Engine.woken_from.Given as goal

abbrev pub invariant-loop-at : goal.invariant-loop-at
invariant-loop-at l = WaitBefore l.fn.self l.at
