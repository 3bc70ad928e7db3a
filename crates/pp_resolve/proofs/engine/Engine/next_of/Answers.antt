use Rattle.pp_resolve.proofs.Peeking.{other_chosen}
use Rattle.pp_resolve.proofs.engine.Engine.next_of.Goals as goal

pub returns-in_default : goal.returns-in_default
returns-in_default c k a h = absurd (other_chosen c.args.self.now c.args.rest c.args.act c.requires.good c.requires.selected c.in_default.not-Call c.in_default.not-Split h.0 h.1)
