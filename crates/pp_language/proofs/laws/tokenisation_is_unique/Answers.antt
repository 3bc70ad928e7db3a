use Rattle.pp_language.proofs.OneReading.{one_reading}
use Rattle.pp_language.proofs.laws.tokenisation_is_unique.Goals as goal

pub returns : goal.returns
returns c = one_reading
