use Rattle.std.proofs.Common.{◌≡◌, ◌≤◌, take}
use Rattle.pp_language.specs.Kinds.{value_of, greatest_size}
use Rattle.pp_language.proofs.spelling.number_of.Given as goal

abbrev pub invariant-loop-digit : goal.invariant-loop-digit
invariant-loop-digit l = (l.value ≡ value_of 0 (take l.digit-index l.digits)) × (l.value ≤ greatest_size)
