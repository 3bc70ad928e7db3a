use Rattle.std.proofs.Common.{◌≡◌}
use Rattle.pp_worker_tests.specs.Heights.{greatest}
use Rattle.pp_worker_tests.proofs.tests.cells.greatest_of.Given as goal

abbrev pub invariant-loop-done : goal.invariant-loop-done
invariant-loop-done l = l.top ≡ greatest l.low l.done
