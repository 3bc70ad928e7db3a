use Rattle.pp_domain.proofs.Canonical.{sets_tell_domains}
use Rattle.pp_domain.proofs.laws.sets_tell_lists.Goals as goal

pub returns : goal.returns
returns c = sets_tell_domains
