use Rattle.std.proofs.Common.{All, vec_len}
use Rattle.pp_turn.specs.Seats.{AreSeats}
use Rattle.pp_shared_bench.specs.Seats.{IsAtRest}
use Rattle.pp_shared_bench.proofs.turns.at_rest.Given as goal

abbrev pub invariant-loop-seat : goal.invariant-loop-seat
invariant-loop-seat l = AreSeats l.turn 0 l.seats.items × All (IsAtRest l.turn) l.all.items

abbrev pub decreases-loop-seat : goal.decreases-loop-seat
decreases-loop-seat l = vec_len l.seats
