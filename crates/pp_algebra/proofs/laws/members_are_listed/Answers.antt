use Rattle.pp_algebra.proofs.MembersListed.{members-ascend, members-contained}
use Rattle.pp_algebra.proofs.laws.members_are_listed.Goals as goal

pub returns : goal.returns
returns c = record { ascend = members-ascend; contained = members-contained }
