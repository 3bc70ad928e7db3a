use Rattle.pp_algebra.proofs.SameRow.{same_is_equal}
use Rattle.pp_algebra.proofs.laws.same_row_is_equality.Goals as goal

pub returns : goal.returns
returns c = record { equal = same_is_equal }
