use Rattle.std.proofs.Common.{◌≡◌, ◌++◌, vec_len}
use Rattle.pp_deal.specs.Hands.{SameHand, offered, taken}
use Rattle.pp_worker.proofs.offer.offer_all.Given as goal

abbrev pub invariant-loop-hand : goal.invariant-loop-hand
invariant-loop-hand g l = record {
  hand : SameHand l.initial.hand l.hand;
  taken : taken l.hand ≡ taken l.initial.hand;
  offered : offered l.hand ++ l.tasks.items ≡ offered l.initial.hand ++ l.initial.tasks.items;
}

abbrev pub decreases-loop-hand : goal.decreases-loop-hand
decreases-loop-hand g l = vec_len l.tasks
