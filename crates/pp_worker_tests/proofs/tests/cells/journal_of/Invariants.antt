use Rattle.std.proofs.Common.{◌≡◌, ◌<◌, ℕ, Some, slice_get}
use Rattle.pp_cell.specs.Passes.{pass_number}
use Rattle.pp_worker_tests.proofs.tests.cells.journal_of.Given as goal

abbrev pub invariant-loop-i : goal.invariant-loop-i
invariant-loop-i l = (j : ℕ) (p : _) → j < l.i → slice_get l.passes.items j ≡ Some p → pass_number p ≡ j
