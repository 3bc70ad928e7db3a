use Rattle.std.proofs.Common.{◌≡◌, ℕ, ◌+◌, ◌<◌, ◌≤◌, length}
use Rattle.std.specs.Prelude.{IsTrue}
use Rattle.pp_row.specs.declared.cell.Cell.TheVariants.{Var}
use Rattle.pp_heap.specs.Values.{cell_at, slot_at}
use Rattle.pp_unify.specs.Heads.{IsGround}
use Rattle.pp_unify.specs.Joining.{AreBelow}
use Rattle.pp_unify.proofs.head.survey.Given as goal

abbrev pub invariant-loop-cell : goal.invariant-loop-cell
invariant-loop-cell l = record {
  below : (p v : ℕ) → p < l.cell-index → cell_at l.cells p ≡ Var v → l.first + v < l.end;
  least : (n : ℕ) → AreBelow n l.first l.cells → l.end ≤ n;
  ground : IsTrue l.ground → (p v : ℕ) → p < l.cell-index → cell_at l.cells p ≡ Var v → l.first + v < length l.state.slots.items → IsGround (slot_at l.state.slots.items (l.first + v));
}
