use Rattle.pp_domain.proofs.Canonical.{not_empty}
use Rattle.pp_domain.proofs.laws.never_empty.Goals as goal

pub returns : goal.returns
returns c = not_empty
