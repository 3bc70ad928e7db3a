use Rattle.std.proofs.Common.{◌≡◌}
use Rattle.pp_worker_tests.proofs.tests.turns.rounds.Given as goal

abbrev pub invariant-loop : goal.invariant-loop
invariant-loop g l = (l.one.cell ≡ l.initial.one.cell) × (l.two.cell ≡ l.initial.two.cell)
