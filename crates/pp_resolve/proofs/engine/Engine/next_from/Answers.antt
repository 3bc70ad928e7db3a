use Rattle.pp_resolve.proofs.Peeking.{none_chosen}
use Rattle.pp_resolve.proofs.engine.Engine.next_from.Goals as goal

pub returns-in-None : goal.returns-in-None
returns-in-None c k a h = absurd (none_chosen c.args.self.now c.in-None.ensures h.0 h.1)
