use Rattle.std.proofs.Common.{◌≡◌, map, take}
use Rattle.pp_algebra.specs.Terms.{variable}
use Rattle.pp_store.proofs.rows.variables_by.Given as goal

abbrev pub invariant-loop-number : goal.invariant-loop-number
invariant-loop-number l = l.terms.items ≡ map variable (take l.number-index l.numbers)
