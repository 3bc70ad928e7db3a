-- Writing the cells of terms with all bindings in place.
use Rattle.std.specs.Prelude.{◌≡◌, ℕ, ◌+◌, ◌<◌, List, ◌++◌}
use Rattle.pp_row.specs.declared.cell.Cell.{Cell}
use Rattle.pp_row.specs.declared.cell.Cell.TheVariants as cells
use Rattle.pp_row.specs.Cells.{cells_of, cells_of_all}
use Rattle.pp_algebra.specs.Terms.{Tree, Trees, put, put_all, size}
use Rattle.pp_heap.specs.declared.spans.Span.{Span}
use Rattle.pp_heap.specs.declared.state.Value.{Value}
use Rattle.pp_heap.specs.declared.state.Value.TheVariants.{Variable, Int, Atom, Compound}
use Rattle.pp_heap.specs.declared.state.State.{State}
use Rattle.pp_heap.specs.Values.{cell_at, value_term}
use Rattle.pp_heap.specs.Stores.{solution}
use Rattle.pp_heap.specs.Spans.{terms_of, sizes}

-- the first cell of a value
abbrev pub top_cell : List Cell → Value → Cell
top_cell heap (Variable x) = cells.Var x
top_cell heap (Int n) = cells.Int n
top_cell heap (Atom a) = cells.Atom a
top_cell heap (Compound p) = cell_at heap p

-- the cells of these terms under a substitution
abbrev pub written : (ℕ → Tree ℕ) → Trees ℕ → List Cell
written s ts = cells_of_all (put_all s ts)

-- a value is written after `out`, but for the arguments, which the work has more
pub record IsWritten (t : State) (c : Value) (out out' : List Cell) (work work' : List Span) : Type 0 where
  pub cells : out' ++ written (solution t) (terms_of t.heap.items work') ≡ out ++ (cells_of (put (solution t) (value_term t.heap.items c)) ++ written (solution t) (terms_of t.heap.items work))
  pub less : sizes (solution t) (terms_of t.heap.items work') < size (put (solution t) (value_term t.heap.items c)) + sizes (solution t) (terms_of t.heap.items work)
