use Rattle.pp_domain.proofs.Nth.{places_agree}
use Rattle.pp_domain.proofs.laws.places_agree.Goals as goal

pub returns : goal.returns
returns c = places_agree
