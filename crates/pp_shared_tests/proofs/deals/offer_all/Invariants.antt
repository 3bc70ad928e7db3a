use Rattle.std.proofs.Common.{◌≡◌}
use Rattle.pp_deal.specs.Hands.{IsSameDeque, peeks_given}
use Rattle.pp_shared_tests.proofs.deals.offer_all.Given as goal

abbrev pub invariant-loop-item : goal.invariant-loop-item
invariant-loop-item l = IsSameDeque l.fn.hand l.hand × (peeks_given l.hand ≡ peeks_given l.fn.hand)
