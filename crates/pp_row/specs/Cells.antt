-- The cells of a term in prefix order, and the limits of a term.
use Rattle.std.specs.Prelude.{ℕ, zero, suc, ◌≤◌, List, [], ◌∷◌, ◌++◌, All}
use Rattle.pp_row.specs.declared.cell.Cell.{Cell}
use Rattle.pp_row.specs.declared.cell.Cell.TheVariants.{Int, Atom, Compound, Var}
use Rattle.pp_algebra.specs.Members.{IsInteger}
use Rattle.pp_algebra.specs.Terms.{Tree, int, node, variable, Trees, none, more, count}

-- a name with so many arguments
abbrev pub head_of : ℕ → ℕ → Cell
head_of f zero = Atom f
head_of f (suc k) = Compound f (suc k)

abbrev mutual
  pub cells_of : Tree ℕ → List Cell
  cells_of (int n) = Int n ∷ []
  cells_of (node f ts) = head_of f (count ts) ∷ cells_of_all ts
  cells_of (variable v) = Var v ∷ []

  -- those of several terms, one after another
  pub cells_of_all : Trees ℕ → List Cell
  cells_of_all none = []
  cells_of_all (more t ts) = cells_of t ++ cells_of_all ts

-- an integer of the language, or a compound of 1 to 255 arguments
abbrev pub IsLegalCell : Cell → Type 0
IsLegalCell (Int n) = IsInteger n
IsLegalCell (Atom a) = Unit {0}
IsLegalCell (Compound f k) = (1 ≤ k) × (k ≤ 255)
IsLegalCell (Var v) = Unit {0}

-- within the limits of a term
abbrev pub IsTerm : Tree ℕ → Type 0
IsTerm t = All IsLegalCell (cells_of t)

-- how many terms follow the cell as its arguments
abbrev pub arity_of : Cell → ℕ
arity_of (Int n) = 0
arity_of (Atom a) = 0
arity_of (Compound f k) = k
arity_of (Var v) = 0

abbrev pub variables_in : Cell → List ℕ
variables_in (Int n) = []
variables_in (Atom a) = []
variables_in (Compound f k) = []
variables_in (Var v) = v ∷ []

-- the variables of the cells from left to right, each as often as it stands there
abbrev pub variables_among : List Cell → List ℕ
variables_among [] = []
variables_among (c ∷ cs) = variables_in c ++ variables_among cs

-- the cell with another number for its variable
abbrev pub renamed : (ℕ → ℕ) → Cell → Cell
renamed f (Int n) = Int n
renamed f (Atom a) = Atom a
renamed f (Compound g k) = Compound g k
renamed f (Var v) = Var (f v)
