use Rattle.std.proofs.Common.{ℕ, [], ◌∷◌, take}
use Rattle.pp_algebra.specs.Covers.{IsIn}
use Rattle.pp_row.specs.Cells.{cells_of, variables_among}
use Rattle.pp_store.specs.Occurring.{Stands, HasMore}
use Rattle.pp_store.proofs.occurrences.Occurrences.add.Given as goal

abbrev pub invariant-loop-cell : goal.invariant-loop-cell
invariant-loop-cell l = record {
  more : HasMore (l.number ∷ []) l.initial.self l.self;
  added : (v : ℕ) → IsIn v (variables_among (take l.cell-index (cells_of l.term))) → Stands l.self v l.number;
}
