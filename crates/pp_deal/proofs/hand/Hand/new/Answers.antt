use Rattle.pp_deal.proofs.Keeps.{begins}
use Rattle.pp_deal.proofs.hand.Hand.new.Goals as goal

pub fifo_as-requires : goal.fifo_as-requires
fifo_as-requires g c = begins
