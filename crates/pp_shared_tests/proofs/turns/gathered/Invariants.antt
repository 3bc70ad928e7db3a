use Rattle.std.proofs.Common.{◌≡◌, false, All, vec_len}
use Rattle.pp_turn.specs.Seats.{IsSeatOf, is_in_turn, seat_number, seat_span}
use Rattle.pp_shared_tests.proofs.turns.gathered.Given as goal

abbrev pub invariant-loop-player : goal.invariant-loop-player
invariant-loop-player l =
    All (λ p. IsSeatOf l.fn.turn p.seat) l.all.items × IsSeatOf l.fn.turn l.seat × (is_in_turn l.seat ≡ false)
    × (seat_number l.seat ≡ 0) × (seat_span l.seat ≡ l.joined)

abbrev pub decreases-loop-player : goal.decreases-loop-player
decreases-loop-player l = vec_len l.all
