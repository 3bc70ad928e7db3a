use Rattle.pp_stop.specs.Seats.{IsSeatOf}
use Rattle.pp_shared_bench.proofs.stops.raise_often.Given as goal

abbrev pub invariant-loop : goal.invariant-loop
invariant-loop l = IsSeatOf l.stop l.seat
