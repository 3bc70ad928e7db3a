use Rattle.pp_deal.specs.Hands.{SameHand}
use Rattle.pp_stop.specs.Seats.{IsSeatOf}
use Rattle.pp_cell.specs.Passes.{SamePass}
use Rattle.pp_worker.specs.Peeks.{AreSamePeeks}
use Rattle.pp_worker.specs.Turns.{HasTurned}
use Rattle.pp_worker.proofs.working.turn_until_settled.Given as goal

abbrev pub invariant-loop : goal.invariant-loop
invariant-loop g l = record {
  pass : SamePass l.initial.desk.pass l.desk.pass;
  own : HasTurned l.initial.desk.pass l.desk.pass;
  seat : IsSeatOf l.stop l.desk.seat;
  hand : SameHand l.initial.desk.hand l.desk.hand;
  peeks : AreSamePeeks l.initial.desk.peeks.items l.desk.peeks.items;
}
