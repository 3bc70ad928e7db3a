-- What the type `Given` names in the definitions.
use Rattle.pp_algebra.specs.Givens as givens
use Rattle.pp_row.specs.declared.given.Given.{Given}
use Rattle.pp_row.specs.declared.given.Given.TheVariants as kinds

abbrev pub given_of : Given → givens.Given
given_of (kinds.Int n) = givens.integer n
given_of kinds.Ranged = givens.ranged
given_of kinds.Free = givens.free
given_of kinds.Other = givens.other
