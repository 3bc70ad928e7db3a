use Rattle.std.proofs.Common.{length}
use Rattle.pp_deal.specs.Hands.{left}
use Rattle.pp_shared_tests.proofs.deals.take_rest.Given as goal

abbrev pub decreases-loop-item : goal.decreases-loop-item
decreases-loop-item l = length (left l.left)
