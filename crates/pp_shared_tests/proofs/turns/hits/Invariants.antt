use Rattle.std.proofs.Common.{◌≡◌, false}
use Rattle.pp_turn.specs.Seats.{SameSeat, is_in_turn}
use Rattle.pp_shared_tests.proofs.turns.hits.Given as goal

abbrev pub invariant-loop : goal.invariant-loop
invariant-loop g l = SameSeat l.fn.seat l.seat × (is_in_turn l.seat ≡ false)
