use Rattle.pp_deal.proofs.Keeps.{takes_left_keep, leaves_none}
use Rattle.pp_deal.proofs.hand.Left.take.Goals as goal

pub pop_as-requires-clause-fifo : goal.pop_as-requires-clause-fifo
pop_as-requires-clause-fifo g c _ = takes_left_keep _ _ c.args.self.now.leads c.args.self.now.alone

pub pop_as-requires-clause-empty : goal.pop_as-requires-clause-empty
pop_as-requires-clause-empty g c = leaves_none _ _ c.args.self.now.leads c.args.self.now.alone
