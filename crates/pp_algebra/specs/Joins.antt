-- Joins of rows, two at a time and in any grouping.
use Rattle.std.specs.Prelude.{◌≡◌, ℕ, List, [], ◌∷◌, ◌++◌}
use Rattle.pp_algebra.specs.Terms.{count}
use Rattle.pp_algebra.specs.Rows.{Row, IsCanonical}
use Rattle.pp_algebra.specs.Covers.{IsIn}
use Rattle.pp_algebra.specs.Least.{least_row}

-- a tree of joins, with a row at each tip
pub data Joins : Type 0 where
  one : Row → Joins
  two : Joins → Joins → Joins

-- the rows at the tips, from left to right
abbrev pub rows_of : Joins → List Row
rows_of (one r) = r ∷ []
rows_of (two a b) = rows_of a ++ rows_of b

-- a join is the least generalisation of two rows
abbrev pub joined : Joins → Row
joined (one r) = r
joined (two a b) = least_row (joined a) (joined b ∷ [])

-- canonical rows of n columns each
abbrev pub AllOf : ℕ → List Row → Type 0
AllOf n rs = (q : Row) → IsIn q rs → IsCanonical q × (count q.columns ≡ n)

-- rows of as many columns as this one
abbrev pub AreOfWidth : List Row → Row → Type 0
AreOfWidth rs r = (q : Row) → IsIn q rs → count q.columns ≡ count r.columns

-- the same rows stand in both lists, in whatever order and however often
abbrev pub SameRows : List Row → List Row → Type 0
SameRows rs qs = ((q : Row) → IsIn q rs → IsIn q qs) × ((q : Row) → IsIn q qs → IsIn q rs)

-- the same, by its former name
abbrev pub AreWideAs : List Row → Row → Type 0
AreWideAs rs r = AreOfWidth rs r
