-- Terms from outside: which variables they may speak of, and what their tops and their cells are under a substitution.
use Rattle.std.specs.Prelude.{◌≡◌, ℕ, ◌+◌, ◌<◌, List, [], ◌∷◌, length}
use Rattle.pp_row.specs.declared.cell.Cell.{Cell}
use Rattle.pp_row.specs.declared.cell.Cell.TheVariants as cells
use Rattle.pp_row.specs.Cells.{cells_of}
use Rattle.pp_algebra.specs.Terms.{Tree, int, node, variable, variables}
use Rattle.pp_algebra.specs.Covers.{IsIn}
use Rattle.pp_algebra.specs.Members.{IsInteger}
use Rattle.pp_heap.specs.declared.state.Slot.{Slot}
use Rattle.pp_heap.specs.declared.state.Value.{Value}
use Rattle.pp_heap.specs.declared.state.Value.TheVariants.{Variable, Int, Atom, Compound}

-- each variable of the term has a slot
abbrev pub IsAmong : List Slot → Tree ℕ → Type 0
IsAmong slots t = (v : ℕ) → IsIn v (variables t) → v < length slots

abbrev pub IsNode : Value → Type 0
IsNode (Variable x) = ⊥
IsNode (Int n) = ⊥
IsNode (Atom a) = Unit {0}
IsNode (Compound p) = Unit {0}

-- the value is the top of the term
abbrev pub IsTop : List Slot → Tree ℕ → Value → Type 0
IsTop slots (int n) c = (c ≡ Int n) × IsInteger n
IsTop slots (node f ts) c = IsNode c
IsTop slots (variable x) c = (c ≡ Variable x) × (x < length slots)

-- the cell, or the cells of its variable's term
abbrev pub cells_under : (ℕ → Tree ℕ) → Cell → List Cell
cells_under s (cells.Int n) = cells.Int n ∷ []
cells_under s (cells.Atom a) = cells.Atom a ∷ []
cells_under s (cells.Compound f k) = cells.Compound f k ∷ []
cells_under s (cells.Var v) = cells_of (s v)

-- the cell's variable, counted from a first one, is one of so many
abbrev pub IsThere : ℕ → ℕ → Cell → Type 0
IsThere first n (cells.Int k) = Unit {0}
IsThere first n (cells.Atom a) = Unit {0}
IsThere first n (cells.Compound f k) = Unit {0}
IsThere first n (cells.Var v) = first + v < n
