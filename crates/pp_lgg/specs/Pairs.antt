-- Pairs of terms that stand at one place of two rows, and the variables that stand for them.
use Rattle.std.specs.Prelude.{ℕ, List, [], ◌∷◌, map}
use Rattle.pp_algebra.specs.Terms.{Tree, variable}
use Rattle.pp_algebra.specs.Canon.{place, same_list}
use Rattle.pp_row.specs.declared.cell.Cell.{Cell}
use Rattle.pp_row.specs.declared.cell.Cell.TheVariants.{Int, Atom, Compound, Var}
use Rattle.pp_row.specs.Reading.{tree_of, IsOneTerm}
use Rattle.pp_lgg.specs.declared.pair.Pair.{Pair}

-- both are the cells of a term
pub record IsPair (p : Pair) : Type 0 where
  pub left : IsOneTerm p.left.now
  pub right : IsOneTerm p.right.now

-- the two terms
abbrev pub name : Pair → List (Tree ℕ)
name p = tree_of p.left.now ∷ tree_of p.right.now ∷ []

abbrev pub names : List Pair → List (List (Tree ℕ))
names ps = map name ps

-- the variable for two terms, by their place among these
abbrev pub placed : List (List (Tree ℕ)) → List (Tree ℕ) → Tree ℕ
placed ns v = variable (place same_list ns v)

-- the cell is no variable
abbrev pub IsFixed : Cell → Type 0
IsFixed (Int n) = Unit {0}
IsFixed (Atom a) = Unit {0}
IsFixed (Compound f k) = Unit {0}
IsFixed (Var v) = ⊥
