-- The laws of search, as statements.
use Rattle.std.specs.Prelude.{◌≡◌, ℕ, ◌≤◌, length, List, [], ◌++◌}
use Rattle.pp_algebra.specs.Rows.{Row, IsCanonical, AreWide, IsRow}
use Rattle.pp_algebra.specs.Covers.{IsIn, RowCovers}
use Rattle.pp_algebra.specs.Joins.{AllOf}
use Rattle.pp_sld.specs.Goals.{Shape, Program, Config}
use Rattle.pp_sld.specs.Ways.{Way, Leads}
use Rattle.pp_sld.specs.Trees.{Search, answer, loose, IsSearch}
use Rattle.pp_sld.specs.Trace.{trace, met, reductions, until, leaves}
use Rattle.pp_sld.specs.Leaves.{root, leaf_row, answer_rows, loose_rows, HasLeaves}
use Rattle.pp_algebra.specs.Numbered.{call}
use Rattle.pp_sld.specs.Verdicts.{Mode, Verdict, unfinished, verdict, HasVerdict}
use Rattle.pp_sld.specs.Findings.{finding_of, outcome}
use Rattle.pp_sld.specs.Lattice.{RowsUnder, LeavesUnder, Fits}
use Rattle.pp_sld.specs.Walks.{settled_by, walk}
use Rattle.pp_sld.specs.Works.{Work, worth}
use Rattle.pp_sld.specs.Growth.{at_depth, Grown}

-- a way leads to one configuration
abbrev pub LeadsOnce : Type 0
LeadsOnce = (w : Way) (d e : Config) → Leads w d → Leads w e → d ≡ e

-- a configuration has at most one search tree
abbrev pub HasAtMostOneSearch : Type 0
HasAtMostOneSearch = (clauses : Program) (c : Config) (t u : Search) → IsSearch clauses c t → IsSearch clauses c u → t ≡ u

-- each configuration has one search tree
abbrev pub HasOneSearch : Type 0
HasOneSearch = (clauses : Program) (c : Config) → (t : Search) × IsSearch clauses c t × ((u : Search) → IsSearch clauses c u → t ≡ u)

-- a configuration has one list of answers and one of loose ends
abbrev pub HasOneListOfLeaves : Type 0
HasOneListOfLeaves = (clauses : Program) (c : Config) → (A C : List Row) × HasLeaves clauses c A C × ((B D : List Row) → HasLeaves clauses c B D → (A ≡ B) × (C ≡ D))

-- a goal under a face has one verdict at each depth
abbrev pub HasOneVerdict : Type 0
HasOneVerdict = (clauses : Program) (depth : ℕ) (m : Mode) (shape : Shape) (face : Row) → (v : Verdict) × HasVerdict clauses depth m shape face v × ((w : Verdict) → HasVerdict clauses depth m shape face w → v ≡ w)

-- the row of a configuration covers each leaf below it, which is a canonical row
abbrev pub LeafRowCovers : Type 0
LeafRowCovers = (clauses : Program) (c : Config) (t : Search) → IsSearch clauses c t → (r : Row) → IsIn r (answer_rows (leaves t) ++ loose_rows (leaves t)) → RowCovers (leaf_row c) r × IsCanonical r

-- each answer and each loose end of a goal is a canonical row that the call covers
abbrev pub CallCoversLeaves : Type 0
CallCoversLeaves = (clauses : Program) (shape : Shape) (face : Row) (depth : ℕ) (t : Search) → IsSearch clauses (root shape face depth) t → (r : Row) → IsIn r (answer_rows (leaves t) ++ loose_rows (leaves t)) → RowCovers (call face) r × IsCanonical r

-- and has a column for each variable of the face
abbrev pub LeavesHaveWidth : Type 0
LeavesHaveWidth = (clauses : Program) (shape : Shape) (face : Row) (depth : ℕ) (t : Search) → IsSearch clauses (root shape face depth) t → AllOf (length face.domains) (answer_rows (leaves t) ++ loose_rows (leaves t))

-- the leaves of a configuration with wide domains are rows, so those of a goal are where its face is one; and so is the call
abbrev pub LeavesAreRows : Type 0
LeavesAreRows = (clauses : Program) (c : Config) (t : Search) → AreWide c.domains → IsSearch clauses c t → (r : Row) → IsIn r (answer_rows (leaves t) ++ loose_rows (leaves t)) → IsRow r

abbrev pub CallIsRow : Type 0
CallIsRow = (face : Row) → AreWide face.domains → IsRow (call face)

-- with more depth the answers stay, and each new answer or loose end is covered by an old loose end
abbrev pub LeavesGrow : Type 0
LeavesGrow = (clauses : Program) (c : Config) (n : ℕ) → c.depth ≤ n → (t u : Search) → IsSearch clauses c t → IsSearch clauses (at_depth c n) u → Grown (answer_rows (leaves t)) (loose_rows (leaves t)) (answer_rows (leaves u)) (loose_rows (leaves u))

-- where rows under the call have grown so, a verdict other than unfinished stays
abbrev pub GrownKeepsVerdict : Type 0
GrownKeepsVerdict = (call : Row) → IsCanonical call → (m : Mode) (A C B D : List Row) → RowsUnder call (A ++ C) → RowsUnder call B → Grown A C B D → (verdict m call A C ≡ unfinished → ⊥) → verdict m call B D ≡ verdict m call A C

-- a verdict other than unfinished is the verdict at each larger depth
abbrev pub Deepens : Type 0
Deepens = (clauses : Program) (m : Mode) (shape : Shape) (face : Row) (d e : ℕ) → d ≤ e → (v w : Verdict) → HasVerdict clauses d m shape face v → HasVerdict clauses e m shape face w → (v ≡ unfinished → ⊥) → w ≡ v

-- ===== walks and works of a goal

-- the outcome of what was met at the stop is the verdict of the whole search
abbrev pub WalkGivesVerdict : Type 0
WalkGivesVerdict = (clauses : Program) (depth : ℕ) (m : Mode) (shape : Shape) (face : Row) (t : Search) (v : Verdict) → IsSearch clauses (root shape face depth) t → HasVerdict clauses depth m shape face v
    → outcome (call face) (finding_of m (met (until (settled_by m (call face)) [] (trace t)))) ≡ v

-- a walk makes no more reductions than there are, and none where the root is a leaf
abbrev pub WalkIsAtMost : Type 0
WalkIsAtMost = (m : Mode) (call : Row) (t : Search) → walk m call t ≤ reductions (trace t)

abbrev pub LeafHasNoWalk : Type 0
LeafHasNoWalk = (m : Mode) (call : Row) (c : Config) → (walk m call (answer c) ≡ 0) × (walk m call (loose c) ≡ 0)

-- the leaves of a work of a goal's search lie under the call, so its finding fits
abbrev pub WorthIsUnder : Type 0
WorthIsUnder = (clauses : Program) (shape : Shape) (face : Row) (depth : ℕ) (t : Search) → IsSearch clauses (root shape face depth) t → (w : Work) → LeavesUnder (call face) (worth w t)

abbrev pub WorthFits : Type 0
WorthFits = (clauses : Program) (shape : Shape) (face : Row) (depth : ℕ) (t : Search) → IsSearch clauses (root shape face depth) t → (m : Mode) (w : Work) → Fits m (call face) (finding_of m (worth w t))
