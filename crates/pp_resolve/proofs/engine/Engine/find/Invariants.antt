use Rattle.std.proofs.Common.{length}
use Rattle.pp_resolve.specs.Engines.{left, AllWait, Sees, IsSamePlace}
use Rattle.pp_resolve.proofs.engine.Engine.find.Given as goal

abbrev pub invariant-loop-act : goal.invariant-loop-act
invariant-loop-act l = record {
  same : IsSamePlace l.fn.self l.self;
  wait : AllWait l.self;
  sees : Sees l.self l.act;
}

abbrev pub decreases-loop-act : goal.decreases-loop-act
decreases-loop-act l = length (left l.self)
