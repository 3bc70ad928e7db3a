use Rattle.std.proofs.Common.{◌≡◌, ◌≤◌, ◌+◌, ◌++◌, ℕ, Some, map, slice_get, vec_len, vec_capacity}
use Rattle.pp_cell.proofs.open.passes_of.Given as goal

abbrev pub invariant-loop-seats : goal.invariant-loop-seats
invariant-loop-seats g l = record {
  number : l.number ≡ vec_len l.all;
  room : vec_len l.all + vec_len l.seats ≤ vec_capacity l.all;
  count : vec_len l.all + vec_len l.seats ≡ vec_len l.fn.seats;
  seats : map (λ p. p.seat) l.all.items ++ l.seats.items ≡ l.fn.seats.items;
  passes : (i : ℕ) (p : _) → slice_get l.all.items i ≡ Some p → (p.space.now ≡ l.space) × (p.root ≡ l.root) × (p.number ≡ i);
}

abbrev pub decreases-loop-seats : goal.decreases-loop-seats
decreases-loop-seats g l = vec_len l.seats
