-- The terms that cells write: they are read from the right, with the terms that are complete so far.
use Rattle.std.specs.Prelude.{◌≡◌, ℕ, zero, suc, pos, List, [], ◌∷◌, drop, Option, Some, None, option_map, option_and_then, All}
use Rattle.pp_row.specs.declared.cell.Cell.{Cell}
use Rattle.pp_row.specs.declared.cell.Cell.TheVariants.{Int, Atom, Compound, Var}
use Rattle.pp_algebra.specs.Terms.{Tree, int, node, variable, Trees, none, more}
use Rattle.pp_row.specs.Cells.{cells_of, IsLegalCell}

-- the first k terms, and the others
abbrev pub split : ℕ → Trees ℕ → Option (Trees ℕ × Trees ℕ)
split zero ts = Some (none, ts)
split (suc k) none = None
split (suc k) (more t ts) = option_map (λ p. (more t p.0, p.1)) (split k ts)

abbrev pub step : Cell → Trees ℕ → Option (Trees ℕ)
step (Int n) ts = Some (more (int n) ts)
step (Atom a) ts = Some (more (node a none) ts)
step (Compound f k) ts = option_map (λ p. more (node f p.0) p.1) (split k ts)
step (Var v) ts = Some (more (variable v) ts)

abbrev pub stack : List Cell → Option (Trees ℕ)
stack [] = Some none
stack (c ∷ cs) = option_and_then (step c) (stack cs)

abbrev pub only : Option (Trees ℕ) → Tree ℕ
only None = int (pos 0)
only (Some none) = int (pos 0)
only (Some (more t ts)) = t

-- the term that the cells write, where they are one
abbrev pub tree_of : List Cell → Tree ℕ
tree_of cs = only (stack cs)

-- the cells are one term in prefix order
pub record IsOneTerm (cs : List Cell) : Type 0 where
  pub legal : All IsLegalCell cs
  pub whole : cells_of (tree_of cs) ≡ cs

abbrev pub all_of : Option (Trees ℕ) → Trees ℕ
all_of None = none
all_of (Some ts) = ts

-- the terms that the cells write one after another
abbrev pub forest : List Cell → Trees ℕ
forest cs = all_of (stack cs)

-- the cells are whole terms, one after another
pub record IsForest (cs : List Cell) : Type 0 where
  pub legal : All IsLegalCell cs
  pub reads : stack cs ≡ Some (forest cs)

-- the terms from this place on
abbrev pub from : List Cell → ℕ → Trees ℕ
from cs i = forest (drop i cs)
