use Rattle.std.proofs.Common.{◌≡◌, drop}
use Rattle.pp_language.specs.Kinds.{value_of}
use Rattle.pp_parse.proofs.tokens.size.Given as goal

abbrev pub invariant-loop-digit : goal.invariant-loop-digit
invariant-loop-digit l = value_of l.value (drop l.digit-index l.digits) ≡ value_of 0 l.digits
