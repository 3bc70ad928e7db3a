use Rattle.std.proofs.Common.{◌≡◌, [], get_or, take}
use Rattle.std.specs.Prelude.{nat_eq}
use Rattle.pp_algebra.specs.Canon.{firsts}
use Rattle.pp_store.proofs.occurrences.Occurrences.take_in.Given as goal

abbrev pub invariant-loop-number : goal.invariant-loop-number
invariant-loop-number l = l.numbers.keys ≡ firsts nat_eq l.initial.numbers.keys (take l.number-index (get_or l.self l.variable []))
