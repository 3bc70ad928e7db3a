use Rattle.pp_domain.proofs.Ascending.{len_is}
use Rattle.pp_domain.proofs.laws.sizes_agree.Goals as goal

pub returns : goal.returns
returns c = len_is
