-- Goals as the code has them, lists of terms that are the arguments, and what stands for the variables that are
-- replaced.
use Rattle.std.specs.Prelude.{◌≡◌, ℕ, cond, nat_eq, List}
use Rattle.pp_algebra.specs.Terms.{Tree, variable, Trees}
use Rattle.pp_algebra.specs.Canon.{has, place}
use Rattle.pp_sld.specs.Goals.{Goal}
use Rattle.pp_algebra.specs.Numbered.{column}
use Rattle.pp_row.specs.Columns.{trees_of}

-- whatever is asked of these arguments
abbrev pub OfGoal : List (Tree ℕ) → (Goal ℕ → Type 0) → Type 0
OfGoal arguments P = (g : Goal ℕ) → g.arguments ≡ trees_of arguments → P g

-- what stands for a variable: the column at its place among these names, or itself
abbrev pub replacement : List ℕ → Trees ℕ → ℕ → Tree ℕ
replacement names columns v = cond (has nat_eq names v) (column columns (place nat_eq names v)) (variable v)
