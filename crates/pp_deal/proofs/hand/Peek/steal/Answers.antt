use Rattle.std.proofs.Common.{inr}
use Rattle.pp_deal.proofs.Keeps.{takes_keep}
use Rattle.pp_deal.proofs.hand.Peek.steal.Goals as goal

pub steal_as-requires-clause-takes : goal.steal_as-requires-clause-takes
steal_as-requires-clause-takes g c = takes_keep _ _ (inr c.args.self.now.is_out)
