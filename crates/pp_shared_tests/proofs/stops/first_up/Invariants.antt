use Rattle.pp_stop.specs.Seats.{IsSeatOf}
use Rattle.pp_shared_tests.proofs.stops.first_up.Given as goal

abbrev pub invariant-loop : goal.invariant-loop
invariant-loop g l = IsSeatOf l.stop l.seat
