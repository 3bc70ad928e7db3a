-- The laws of reports, as statements.
use Rattle.std.specs.Prelude.{◌≡◌, ℕ, List, [], ◌∷◌, ◌++◌, Some}
use Rattle.pp_algebra.specs.Rows.{Row}
use Rattle.pp_sld.specs.Trees.{Search}
use Rattle.pp_sld.specs.Trace.{Leaf}
use Rattle.pp_sld.specs.Paths.{PathComesTo}
use Rattle.pp_sld.specs.Works.{Level, Work, spent, at, places, worth, path_worth, down, next, split}
use Rattle.pp_sld.specs.Verdicts.{Mode}
use Rattle.pp_sld.specs.Findings.{Finding, finding_of, empty, join_finding}
use Rattle.pp_sld.specs.Lattice.{LeavesUnder, Fits, IsBelow}
use Rattle.pp_sld.specs.Reports.{HasWalked, IsFound, IsFitReport}

-- ===== the steps of a walk: the first of the works that are left is walked on

abbrev pub WalkBegins : Type 0
WalkBegins = (t : Search) (w : Work) → HasWalked t w [] (w ∷ [])

-- down into a choice of n alternatives
abbrev pub WalkGoesDown : Type 0
WalkGoesDown = (t : Search) (w : Work) (xs : List Leaf) (ls : List Level) (rest : List Work) (n : ℕ) → PathComesTo n (places ls) t → HasWalked t w xs (at ls ∷ rest) → HasWalked t w xs (down n (at ls) ∷ rest)

-- on to the next sibling, when the leaves at the path are met
abbrev pub WalkGoesOn : Type 0
WalkGoesOn = (t : Search) (w : Work) (xs : List Leaf) (v : Work) (rest : List Work) → HasWalked t w xs (v ∷ rest) → HasWalked t w (xs ++ path_worth v t) (next v ∷ rest)

abbrev pub WalkEnds : Type 0
WalkEnds = (t : Search) (w : Work) (xs : List Leaf) (rest : List Work) → HasWalked t w xs (spent ∷ rest) → HasWalked t w xs rest

-- what is left is split
abbrev pub WalkSplits : Type 0
WalkSplits = (t : Search) (w : Work) (xs : List Leaf) (v a b : Work) (rest : List Work) → split v ≡ Some (a, b) → HasWalked t w xs (v ∷ rest) → HasWalked t w xs (a ∷ b ∷ rest)

-- ===== what is found meanwhile, under what was known

abbrev pub NothingIsFound : Type 0
NothingIsFound = (m : Mode) (under : Finding) → IsFound m under [] (empty m)

-- leaves that are met and joined
abbrev pub LeavesAreFound : Type 0
LeavesAreFound = (m : Mode) (call : Row) (under : Finding) (xs ys : List Leaf) (found : Finding) → Fits m call under → Fits m call found → LeavesUnder call (xs ++ ys) → IsFound m under xs found → IsFound m under (xs ++ ys) (join_finding found (finding_of m ys))

-- leaves that are left out, since what is known has all that they show
abbrev pub LeavesAreSkipped : Type 0
LeavesAreSkipped = (m : Mode) (call : Row) (under : Finding) (xs ys : List Leaf) (found : Finding) → Fits m call under → LeavesUnder call (xs ++ ys) → IsBelow (finding_of m ys) under → IsFound m under xs found → IsFound m under (xs ++ ys) found

-- the report of such a walk is fit
abbrev pub ReportIsFit : Type 0
ReportIsFit = (m : Mode) (call : Row) (t : Search) (w : Work) (xs : List Leaf) (found : Finding) (rest : List Work) (under : Finding) → ((v : Work) → LeavesUnder call (worth v t)) → Fits m call found → Fits m call under
    → HasWalked t w xs rest → IsFound m under xs found → IsFitReport m t w under rest found
