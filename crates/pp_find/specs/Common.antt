-- What rows have in common, and what is kept of the leaves of a search with `most`.
use Rattle.std.specs.Prelude.{◌≡◌, Bool, List, [], ◌∷◌, Option, Some, None}
use Rattle.std.specs.Option.{IfSome}
use Rattle.pp_algebra.specs.Terms.{count}
use Rattle.pp_algebra.specs.Rows.{Row}
use Rattle.pp_algebra.specs.Covers.{RowCovers}
use Rattle.pp_sld.specs.Findings.{finds_most, join_option, settled}
use Rattle.pp_sld.specs.Lattice.{IsUnder, CoversIfSome}
use Rattle.pp_find.specs.declared.leaves.Leaves.{Leaves}

-- the join of the rows
abbrev pub common : List Row → Option Row
common [] = None
common (r ∷ rs) = join_option (Some r) (common rs)

-- rows under this call, as a list and as a fact
abbrev pub LieUnder : Row → List Row → Type 0
LieUnder call [] = Unit {0}
LieUnder call (r ∷ rs) = IsUnder call r × LieUnder call rs

abbrev pub AreUnder : Row → List Row → Type 0
AreUnder call rs = ∥ LieUnder call rs ∥₁

-- rows under some call
abbrev pub AreUnderOne : List Row → Type 0
AreUnderOne rs = ∥ ((call : Row) × LieUnder call rs) ∥₁

-- a row as wide as the call that covers the other, where that is there, and does not cover the call
pub record IsBound (call : Row) (g : Option Row) (w : Row) : Type 0 where
  pub width : count w.columns ≡ count call.columns
  pub covers : CoversIfSome (Some w) g
  pub apart : RowCovers w call → ⊥

-- answers and loose ends of a search with this call, a bound, and whether the answers have no more in common than the
-- call
pub record Keeps (call : Row) (answers loose : List Row) (bound : Option Row) (reached : Bool) : Type 0 where
  pub answers_under : LieUnder call answers
  pub loose_under : LieUnder call loose
  pub bounds : IfSome bound (IsBound call (common answers))
  pub told : reached ≡ settled call (finds_most (common answers) None)

abbrev pub IsKept : Row → Leaves → Type 0
IsKept call l = Keeps call l.answers.items l.loose.items l.bound l.settled
