use Rattle.std.proofs.Common.{◌≡◌, ◌+◌, true, false}
use Rattle.pp_stop.specs.Seats.{IsSeatOf, StillSeen, has_seen, late, loads}
use Rattle.pp_worker_tests.specs.Heights.{greatest}
use Rattle.pp_worker_tests.proofs.tests.searching.scan.Given as goal

abbrev pub invariant-loop-done : goal.invariant-loop-done
invariant-loop-done l = record {
  seat : IsSeatOf l.stop l.seat;
  seen : StillSeen l.initial.seat l.seat;
  late : has_seen l.initial.seat ≡ false → (has_seen l.seat ≡ false) × (late l.seat ≡ late l.initial.seat);
  top : l.top ≡ greatest l.low l.done;
  loads : loads l.seat ≡ loads l.initial.seat + l.done;
  fresh : has_seen l.initial.seat ≡ true → l.done ≡ 0;
}
