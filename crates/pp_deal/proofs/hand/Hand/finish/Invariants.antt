use Rattle.std.proofs.Common.{◌≡◌, true, All, length, vec_len, ℕ, ◌+◌}
use Rattle.crossbeam_deque.specs.Handles.{worker_view, worker_deque, worker_flavor, stealer_deque}
use Rattle.pp_deal.specs.Dealt.{weigh}
use Rattle.pp_deal.specs.Hands.{stolen}
use Rattle.pp_deal.proofs.hand.Hand.finish.Given as goal

abbrev pub invariant-loop-peek : goal.invariant-loop-peek
invariant-loop-peek g l =
    All (λ p. stealer_deque p.stealer ≡ worker_deque l.worker) l.peeks.items
    × (length l.peeks.items ≡ (worker_view l.worker).peeks)
    × (worker_flavor l.worker ≡ 0)
    × ((worker_view l.worker).leads ≡ true)
    × ((worker_view l.worker).offered ≡ (worker_view l.fn.self.worker).offered)
    × ((weight : g.row.T.Denot → ℕ) → weigh weight (worker_view l.worker).taken + weigh (λ p. weigh weight (stolen p)) l.peeks.items ≡ weigh weight (worker_view l.fn.self.worker).taken + weigh (λ p. weigh weight (stolen p)) l.fn.peeks.items)

abbrev pub decreases-loop-peek : goal.decreases-loop-peek
decreases-loop-peek g l = vec_len l.peeks
