use Rattle.pp_domain.proofs.Members.{contains_lies}
use Rattle.pp_domain.proofs.laws.members_lie.Goals as goal

pub returns : goal.returns
returns c = contains_lies
