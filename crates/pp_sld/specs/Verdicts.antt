-- The verdict of a search in each of the three modes, from the list of its answers and the list of its loose ends.
use Rattle.std.specs.Prelude.{◌≡◌, ℕ, Bool, true, false, cond, List, [], ◌∷◌, ◌++◌, Option, Some, None}
use Rattle.pp_algebra.specs.Rows.{Row}
use Rattle.pp_algebra.specs.Canon.{same_row}
use Rattle.pp_algebra.specs.Least.{least_list}
use Rattle.pp_sld.specs.Goals.{Shape, Program}
use Rattle.pp_sld.specs.Leaves.{root, HasLeaves}
use Rattle.pp_algebra.specs.Numbered.{call}

pub data Mode : Type 0 where
  most unique consistent : Mode

-- the goal fails; it changes nothing; it narrows its call to a row; it has nothing to say; it is unfinished
pub data Verdict : Type 0 where
  fail same nothing unfinished : Verdict
  narrow : Row → Verdict

abbrev pub some_row : List Row → Bool
some_row [] = false
some_row (r ∷ rs) = true

-- is there a row that isn't this one?
abbrev pub another : Row → List Row → Bool
another r [] = false
another r (q ∷ qs) = cond (same_row r q) (another r qs) true

-- what the answers have in common, and what the answers and the loose ends have in common
abbrev pub answer_generalisation : List Row → Option Row
answer_generalisation A = least_list A

abbrev pub leaf_generalisation : List Row → List Row → Option Row
leaf_generalisation A C = least_list (A ++ C)

-- with `most`, from these two: no leaf; no answer; the answers have what the call says; each loose end has it too, or not
abbrev pub verdict_most : Row → Option Row → Option Row → Verdict
verdict_most call None None = fail
verdict_most call None (Some h) = unfinished
verdict_most call (Some g) None = unfinished
verdict_most call (Some g) (Some h) = cond (same_row g call) same (cond (same_row g h) (narrow g) unfinished)

-- the verdict for a call, from its answers and its loose ends
abbrev pub verdict : Mode → Row → List Row → List Row → Verdict
verdict most call A C = verdict_most call (answer_generalisation A) (leaf_generalisation A C)
verdict unique call [] [] = fail
verdict unique call [] (c ∷ C) = unfinished
verdict unique call (a ∷ A) C = cond (another a A) nothing (cond (some_row C) unfinished (cond (same_row a call) same (narrow a)))
verdict consistent call [] [] = fail
verdict consistent call [] (c ∷ C) = unfinished
verdict consistent call (a ∷ A) C = nothing

-- a goal of this shape, under a face and at a depth, has this verdict
pub record HasVerdict (clauses : Program) (depth : ℕ) (mode : Mode) (shape : Shape) (face : Row) (v : Verdict) : Type 0 where
  pub answers : List Row
  pub loose_ends : List Row
  pub leaves : HasLeaves clauses (root shape face depth) answers loose_ends
  pub is_verdict : verdict mode (call face) answers loose_ends ≡ v
