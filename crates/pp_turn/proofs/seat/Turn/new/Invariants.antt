use Rattle.std.proofs.Common.{◌≡◌, ◌≤◌, ◌+◌, ◌-◌, ℕ, [], Some, slice_get, vec_len, vec_capacity}
use Rattle.pp_turn.specs.Seats.{Rests}
use Rattle.pp_turn.proofs.seat.Turn.new.Given as goal

abbrev pub invariant-loop-made : goal.invariant-loop-made
invariant-loop-made g l =
    (vec_len l.all + 1 ≡ l.made) × (l.seats ≤ vec_capacity l.all)
    × Rests l.turn (Some (g.T.Kept.base l.fn.value)) (vec_len l.all) (l.seats - vec_len l.all) [] l.last
    × ((i : ℕ) (s : _) → slice_get l.all.items i ≡ Some s → Rests l.turn (Some (g.T.Kept.base l.fn.value)) i 1 [] s)
