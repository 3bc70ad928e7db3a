use Rattle.std.proofs.Common.{◌≡◌, ◌≤◌, All, vec_len}
use Rattle.pp_turn.specs.Seats.{AreSeats, IsSeatOf}
use Rattle.pp_shared_tests.proofs.turns.players.Given as goal

abbrev pub invariant-loop-seat : goal.invariant-loop-seat
invariant-loop-seat l = AreSeats l.turn 7 l.seats.items × (vec_len l.seats ≤ 4) × All (λ p. IsSeatOf l.turn p.seat) l.all.items

abbrev pub decreases-loop-seat : goal.decreases-loop-seat
decreases-loop-seat l = vec_len l.seats
