use Rattle.std.proofs.Common.{take}
use Rattle.pp_store.specs.Numbers.{AreNumbers}
use Rattle.pp_store.proofs.numbers.numbered.Given as goal

abbrev pub invariant-loop-i : goal.invariant-loop-i
invariant-loop-i l = AreNumbers l.first l.count (take l.i l.names) l.numbers.items
