use Rattle.std.proofs.Common.{take}
use Rattle.pp_store.specs.Occurring.{AreGathered}
use Rattle.pp_store.proofs.occurrences.Occurrences.gather.Given as goal

abbrev pub invariant-loop-variable : goal.invariant-loop-variable
invariant-loop-variable l = AreGathered l.self (take l.variable-index l.variables) l.numbers.keys
