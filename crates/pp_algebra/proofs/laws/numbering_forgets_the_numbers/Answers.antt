use Rattle.pp_algebra.proofs.Renamed.{renamed_is_same}
use Rattle.pp_algebra.proofs.laws.numbering_forgets_the_numbers.Goals as goal

pub returns : goal.returns
returns c = record { same = renamed_is_same }
