use Rattle.std.proofs.lemmas.Bool.Decides.{Decides-at}
use Rattle.pp_domain.proofs.Equal.{intervals_tell}
use Rattle.pp_domain.proofs.domain.Domain.same.Goals as goal

pub returns : goal.returns
returns c = Decides-at _ _ c.eq.ensures (intervals_tell c.args.self.now c.args.other.now)
