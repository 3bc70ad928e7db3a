-- Findings: what is known of answers and loose ends while they come in, and how two such are joined.
use Rattle.std.specs.Prelude.{Bool, true, false, cond, ◌||◌, List, [], ◌∷◌, Option, Some, None}
use Rattle.pp_algebra.specs.Rows.{Row}
use Rattle.pp_algebra.specs.Canon.{same_row}
use Rattle.pp_algebra.specs.Least.{least_row}
use Rattle.pp_sld.specs.Trace.{Leaf}
use Rattle.pp_sld.specs.Leaves.{answer_rows, loose_rows}
use Rattle.pp_sld.specs.Verdicts.{Mode, most, unique, consistent, Verdict, fail, same, nothing, unfinished, narrow, some_row, answer_generalisation, leaf_generalisation, verdict_most}

-- the only row so far: there is none, there is one, or there are two that differ
pub data Sole : Type 0 where
  no_row two_rows : Sole
  one_row : Row → Sole

pub data Finding : Type 0 where
  finds_most : Option Row → Option Row → Finding
  finds_unique : Sole → Bool → Finding
  finds_consistent : Bool → Bool → Finding

abbrev pub join_sole : Sole → Sole → Sole
join_sole no_row s = s
join_sole two_rows s = two_rows
join_sole (one_row r) no_row = one_row r
join_sole (one_row r) two_rows = two_rows
join_sole (one_row r) (one_row q) = cond (same_row r q) (one_row r) two_rows

abbrev pub sole_of : List Row → Sole
sole_of [] = no_row
sole_of (r ∷ rs) = join_sole (one_row r) (sole_of rs)

abbrev pub finding : Mode → List Row → List Row → Finding
finding most A C = finds_most (answer_generalisation A) (leaf_generalisation A C)
finding unique A C = finds_unique (sole_of A) (some_row C)
finding consistent A C = finds_consistent (some_row A) (some_row C)

-- of leaves
abbrev pub finding_of : Mode → List Leaf → Finding
finding_of m ls = finding m (answer_rows ls) (loose_rows ls)

-- nothing is found yet
abbrev pub empty : Mode → Finding
empty m = finding m [] []

abbrev pub join_option : Option Row → Option Row → Option Row
join_option None s = s
join_option (Some r) None = Some r
join_option (Some r) (Some q) = Some (least_row r (q ∷ []))

-- part by part; the two are of one goal, so of one mode
abbrev pub join_finding : Finding → Finding → Finding
join_finding (finds_most g h) (finds_most k l) = finds_most (join_option g k) (join_option h l)
join_finding (finds_unique s b) (finds_unique t c) = finds_unique (join_sole s t) (b || c)
join_finding (finds_consistent a b) (finds_consistent c d) = finds_consistent (a || c) (b || d)
join_finding f e = f

abbrev pub outcome_unique : Row → Sole → Bool → Verdict
outcome_unique call two_rows b = nothing
outcome_unique call no_row true = unfinished
outcome_unique call no_row false = fail
outcome_unique call (one_row r) true = unfinished
outcome_unique call (one_row r) false = cond (same_row r call) same (narrow r)

abbrev pub outcome_consistent : Bool → Bool → Verdict
outcome_consistent true b = nothing
outcome_consistent false true = unfinished
outcome_consistent false false = fail

abbrev pub outcome : Row → Finding → Verdict
outcome call (finds_most g h) = verdict_most call g h
outcome call (finds_unique s b) = outcome_unique call s b
outcome call (finds_consistent a b) = outcome_consistent a b

-- nothing that comes in later can change the verdict
abbrev pub settled : Row → Finding → Bool
settled call (finds_most None h) = false
settled call (finds_most (Some g) h) = same_row g call
settled call (finds_unique no_row b) = false
settled call (finds_unique two_rows b) = true
settled call (finds_unique (one_row r) b) = false
settled call (finds_consistent a b) = a
