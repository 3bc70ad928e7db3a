use Rattle.pp_shared_bench.specs.Seats.{IsAtRest}
use Rattle.pp_shared_bench.proofs.turns.take_turns.Given as goal

abbrev pub invariant-loop : goal.invariant-loop
invariant-loop g l = IsAtRest l.turn l.seat
