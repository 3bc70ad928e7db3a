-- Findings as a lattice: which findings are those of a mode and a call, and which lies below which.
use Rattle.std.specs.Prelude.{◌≡◌, List, [], ◌∷◌, Option, Some, None}
use Rattle.pp_algebra.specs.Rows.{Row, IsCanonical}
use Rattle.pp_algebra.specs.Covers.{IsIn, RowCovers}
use Rattle.pp_sld.specs.Trace.{Leaf}
use Rattle.pp_sld.specs.Leaves.{row_at}
use Rattle.pp_sld.specs.Verdicts.{Mode, most, unique, consistent}
use Rattle.pp_sld.specs.Findings.{Sole, one_row, Finding, finds_most, finds_unique, finds_consistent, finding, join_finding}

-- a canonical row that the call covers
abbrev pub IsUnder : Row → Row → Type 0
IsUnder call r = RowCovers call r × IsCanonical r

abbrev pub RowsUnder : Row → List Row → Type 0
RowsUnder call rs = (r : Row) → IsIn r rs → IsUnder call r

abbrev pub LeavesUnder : Row → List Leaf → Type 0
LeavesUnder call ls = (x : Leaf) → IsIn x ls → IsUnder call (row_at x)

abbrev pub UnderIfSome : Row → Option Row → Type 0
UnderIfSome call None = Unit {0}
UnderIfSome call (Some r) = IsUnder call r

-- where the second is there, the first is and covers it
abbrev pub CoversIfSome : Option Row → Option Row → Type 0
CoversIfSome h None = Unit {0}
CoversIfSome None (Some g) = ⊥
CoversIfSome (Some h) (Some g) = RowCovers h g

abbrev pub UnderIfOne : Row → Sole → Type 0
UnderIfOne call (one_row r) = IsUnder call r
UnderIfOne call s = Unit {0}

-- a finding of this mode whose rows lie under the call
abbrev pub Fits : Mode → Row → Finding → Type 0
Fits most call (finds_most g h) = UnderIfSome call g × UnderIfSome call h × CoversIfSome h g
Fits unique call (finds_unique s b) = UnderIfOne call s
Fits consistent call (finds_consistent a b) = Unit {0}
Fits m call f = ⊥

-- the second knows all that the first does
abbrev pub IsBelow : Finding → Finding → Type 0
IsBelow f e = join_finding f e ≡ e

-- one answer more, one loose end more
abbrev pub add_answer : Mode → Row → Finding → Finding
add_answer m r f = join_finding f (finding m (r ∷ []) [])

abbrev pub add_loose : Mode → Row → Finding → Finding
add_loose m r f = join_finding f (finding m [] (r ∷ []))
