use Rattle.pp_domain.proofs.Equal.{intervals_tell}
use Rattle.pp_domain.proofs.laws.equality_tells.Goals as goal

pub returns : goal.returns
returns c = intervals_tell
