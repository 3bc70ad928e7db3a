-- The laws of findings, as statements.
use Rattle.std.specs.Prelude.{◌≡◌, ℕ, true, List, [], ◌∷◌, ◌++◌, Option, Some}
use Rattle.pp_algebra.specs.Rows.{Row}
use Rattle.pp_algebra.specs.Covers.{IsIn, RowCovers}
use Rattle.pp_algebra.specs.Joins.{AllOf, SameRows}
use Rattle.pp_sld.specs.Goals.{Program, Config}
use Rattle.pp_sld.specs.Trees.{Search, IsSearch}
use Rattle.pp_sld.specs.Trace.{Leaf, leaves}
use Rattle.pp_sld.specs.Leaves.{leaf_row}
use Rattle.pp_sld.specs.Verdicts.{Mode, most, verdict}
use Rattle.pp_sld.specs.Findings.{Finding, finds_most, finding, finding_of, empty, join_finding, outcome, settled}
use Rattle.pp_sld.specs.Lattice.{RowsUnder, LeavesUnder, Fits, IsBelow, add_answer, add_loose}

-- ===== the findings of lists

-- the findings of two pairs of lists, joined, are the finding of the lists put one behind the other
abbrev pub FindingsJoin : Type 0
FindingsJoin = (m : Mode) (n : ℕ) (A B C D : List Row) → AllOf n ((A ++ C) ++ (B ++ D)) → join_finding (finding m A C) (finding m B D) ≡ finding m (A ++ B) (C ++ D)

-- a finding doesn't depend on the order of the rows, nor on how often one is found
abbrev pub FindingOfSame : Type 0
FindingOfSame = (m : Mode) (n : ℕ) (A B C D : List Row) → AllOf n (A ++ C) → SameRows A B → SameRows C D → finding m A C ≡ finding m B D

abbrev pub AnswerIsAdded : Type 0
AnswerIsAdded = (m : Mode) (n : ℕ) (A C : List Row) (r : Row) → AllOf n ((A ++ r ∷ []) ++ C) → add_answer m r (finding m A C) ≡ finding m (A ++ r ∷ []) C

abbrev pub LooseIsAdded : Type 0
LooseIsAdded = (m : Mode) (n : ℕ) (A C : List Row) (r : Row) → AllOf n (A ++ (C ++ r ∷ [])) → add_loose m r (finding m A C) ≡ finding m A (C ++ r ∷ [])

-- the outcome of the finding of all answers and loose ends is the verdict
abbrev pub OutcomeIsVerdict : Type 0
OutcomeIsVerdict = (m : Mode) (call : Row) (A C : List Row) → outcome call (finding m A C) ≡ verdict m call A C

-- where the call covers the answers that are still to come, a settled finding stays settled, with its outcome
abbrev pub SettledStays : Type 0
SettledStays = (call : Row) (m : Mode) (A C B D : List Row) → ((q : Row) → IsIn q B → RowCovers call q) → settled call (finding m A C) ≡ true
    → (settled call (join_finding (finding m A C) (finding m B D)) ≡ true)
    × (outcome call (join_finding (finding m A C) (finding m B D)) ≡ outcome call (finding m A C))

-- ===== findings that fit

-- rows under the call have a finding that fits; so have leaves, and the finding of two parts is the join of theirs
abbrev pub FindingFits : Type 0
FindingFits = (m : Mode) (call : Row) (A C : List Row) → RowsUnder call A → RowsUnder call C → Fits m call (finding m A C)

abbrev pub LeavesFit : Type 0
LeavesFit = (m : Mode) (call : Row) (ls : List Leaf) → LeavesUnder call ls → Fits m call (finding_of m ls)

abbrev pub LeavesJoin : Type 0
LeavesJoin = (m : Mode) (call : Row) (xs ys : List Leaf) → LeavesUnder call (xs ++ ys) → finding_of m (xs ++ ys) ≡ join_finding (finding_of m xs) (finding_of m ys)

-- a finding that fits is the finding of some rows. They need not all lie under the call: a call without variables has one row under it, and yet two that differ fit it
abbrev pub FittingIsFound : Type 0
FittingIsFound = (m : Mode) (call : Row) (f : Finding) → Fits m call f → (A C : List Row) × (finding m A C ≡ f)

abbrev pub EmptyFits : Type 0
EmptyFits = (m : Mode) (call : Row) → Fits m call (empty m)

abbrev pub JoinFits : Type 0
JoinFits = (m : Mode) (call : Row) (f e : Finding) → Fits m call f → Fits m call e → Fits m call (join_finding f e)

abbrev pub EmptyIsUnit : Type 0
EmptyIsUnit = (m : Mode) (call : Row) (f : Finding) → Fits m call f → (join_finding (empty m) f ≡ f) × (join_finding f (empty m) ≡ f)

abbrev pub JoinIsIdempotent : Type 0
JoinIsIdempotent = (m : Mode) (call : Row) (f : Finding) → Fits m call f → join_finding f f ≡ f

abbrev pub JoinCommutes : Type 0
JoinCommutes = (m : Mode) (call : Row) (f e : Finding) → Fits m call f → Fits m call e → join_finding f e ≡ join_finding e f

abbrev pub JoinAssociates : Type 0
JoinAssociates = (m : Mode) (call : Row) (f e d : Finding) → Fits m call f → Fits m call e → Fits m call d → join_finding (join_finding f e) d ≡ join_finding f (join_finding e d)

-- a settled finding below another makes that one settled, with the same outcome
abbrev pub BelowStays : Type 0
BelowStays = (m : Mode) (call : Row) (f e : Finding) → Fits m call f → Fits m call e → IsBelow f e → settled call f ≡ true → (settled call e ≡ true) × (outcome call f ≡ outcome call e)

-- ===== what is known adds nothing

-- with `most`, rows that the answers' generalisation covers
abbrev pub CoveredAddsNothing : Type 0
CoveredAddsNothing = (call G : Row) (h : Option Row) (A C : List Row) → Fits most call (finds_most (Some G) h) → RowsUnder call (A ++ C) → ((r : Row) → IsIn r (A ++ C) → RowCovers G r) → IsBelow (finding most A C) (finds_most (Some G) h)

-- so a subtree may be left out where it covers the configuration's row
abbrev pub SubtreeAddsNothing : Type 0
SubtreeAddsNothing = (clauses : Program) (c : Config) (t : Search) (call G : Row) (h : Option Row) → IsSearch clauses c t → Fits most call (finds_most (Some G) h) → RowCovers G (leaf_row c) → RowCovers call (leaf_row c)
    → IsBelow (finding_of most (leaves t)) (finds_most (Some G) h)
