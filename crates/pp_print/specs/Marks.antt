-- Marks by variable for those that occur, and the lines of marked variables.
use Rattle.std.specs.Prelude.{◌≡◌, ℕ, suc, ◌<◌, Bool, false, ◌||◌, cond, nat_eq, List, [], ◌∷◌, length, slice_index_or, Option, Some, None}
use Rattle.pp_algebra.specs.Rows.{Domain}
use Rattle.pp_algebra.specs.Canon.{has}
use Rattle.pp_row.specs.declared.cell.Cell.{Cell}
use Rattle.pp_row.specs.declared.cell.Cell.TheVariants.{Int, Atom, Compound, Var}
use Rattle.pp_language.specs.Texts.{Text}
use Rattle.pp_language.specs.Printing.{ranged_text}

abbrev pub cell_variables : List Cell → List ℕ
cell_variables [] = []
cell_variables (Int n ∷ cs) = cell_variables cs
cell_variables (Atom a ∷ cs) = cell_variables cs
cell_variables (Compound f k ∷ cs) = cell_variables cs
cell_variables (Var v ∷ cs) = v ∷ cell_variables cs

abbrev pub mark_at : List Bool → ℕ → Bool
mark_at marks v = slice_index_or marks v false

-- of so many variables exactly these are marked
pub record Marks (n : ℕ) (vs : List ℕ) (marks : List Bool) : Type 0 where
  pub size : length marks ≡ n
  pub each : (v : ℕ) → v < n → mark_at marks v ≡ has nat_eq vs v

-- exactly these were marked, or were already
abbrev pub AddsMarks : List ℕ → List Bool → List Bool → Type 0
AddsMarks vs before after = (v : ℕ) → v < length before → mark_at after v ≡ (mark_at before v || has nat_eq vs v)

-- a line for each variable from `v` on that is marked and has a finite domain
abbrev pub marked_lines : List Bool → ℕ → List (Option Domain) → List Text
marked_lines marks v [] = []
marked_lines marks v (None ∷ ds) = marked_lines marks (suc v) ds
marked_lines marks v (Some d ∷ ds) = cond (mark_at marks v) (ranged_text v d ∷ marked_lines marks (suc v) ds) (marked_lines marks (suc v) ds)
