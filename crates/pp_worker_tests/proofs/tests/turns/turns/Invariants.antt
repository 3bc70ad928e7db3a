use Rattle.std.proofs.Common.{◌≡◌}
use Rattle.pp_worker_tests.proofs.tests.turns.turns.Given as goal

abbrev pub invariant-loop-reports : goal.invariant-loop-reports
invariant-loop-reports g l = l.worker.cell ≡ l.initial.worker.cell
