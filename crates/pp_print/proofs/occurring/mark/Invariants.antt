use Rattle.std.proofs.Common.{◌≡◌, ℕ, ◌<◌, ◌||◌, nat_eq, drop, length}
use Rattle.pp_algebra.specs.Canon.{has}
use Rattle.pp_print.specs.Marks.{cell_variables, mark_at}
use Rattle.pp_print.proofs.occurring.mark.Given as goal

abbrev pub invariant-loop-cell : goal.invariant-loop-cell
invariant-loop-cell l = (v : ℕ) → v < length l.initial.marks →
    (mark_at l.marks v || has nat_eq (cell_variables (drop l.cell-index l.cells)) v) ≡ (mark_at l.initial.marks v || has nat_eq (cell_variables l.cells) v)
