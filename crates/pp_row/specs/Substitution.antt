-- Terms in place of variables, cell by cell.
use Rattle.std.specs.Prelude.{ℕ, List, [], ◌∷◌, slice_index_or}
use Rattle.pp_algebra.specs.Terms.{Tree, variable}
use Rattle.pp_row.specs.declared.cell.Cell.{Cell}
use Rattle.pp_row.specs.declared.cell.Cell.TheVariants.{Int, Atom, Compound, Var}
use Rattle.pp_row.specs.Cells.{cells_of}

-- variable v becomes the v-th term; one without a place stays
abbrev pub term_at : List (Tree ℕ) → ℕ → Tree ℕ
term_at ts v = slice_index_or ts v (variable v)

abbrev pub put_cell : (ℕ → Tree ℕ) → Cell → List Cell
put_cell s (Int n) = Int n ∷ []
put_cell s (Atom a) = Atom a ∷ []
put_cell s (Compound f k) = Compound f k ∷ []
put_cell s (Var v) = cells_of (s v)
