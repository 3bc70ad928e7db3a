-- What is read off the turns that were made: the changes, the unfinished goals, and the goal that failed. Their number
-- is the list's length.
use Rattle.std.specs.Prelude.{ℕ, zero, suc, Bool, true, false, cond, nat_eq, List, [], ◌∷◌, filter, Option, Some, None}
use Rattle.pp_algebra.specs.Rows.{Row}
use Rattle.pp_sld.specs.Verdicts.{Verdict, fail, unfinished, narrow}
use Rattle.pp_propagation.specs.Turns.{Commit}

-- a turn that narrowed: its number, from 1, the goal, the row that was given, and the store after it
pub record Change : Type 0 where
  pub turn : ℕ
  pub goal : ℕ
  pub given : Row
  pub store : Row

abbrev pub with_change : ℕ → Commit → Verdict → List Change → List Change
with_change turn c (narrow given) later = record { turn = turn; goal = c.goal; given = given; store = c.store } ∷ later
with_change turn c v later = later

-- the changes of these turns, the first of which has this number
abbrev pub changes_from : ℕ → List Commit → List Change
changes_from turn [] = []
changes_from turn (c ∷ cs) = with_change turn c c.verdict (changes_from (suc turn) cs)

abbrev pub changes : List Commit → List Change
changes history = changes_from 1 history

-- the verdict of goal k's last turn; `before` is what it was before these turns
abbrev pub last_verdict : Option Verdict → ℕ → List Commit → Option Verdict
last_verdict before k [] = before
last_verdict before k (c ∷ cs) = last_verdict (cond (nat_eq c.goal k) (Some c.verdict) before) k cs

abbrev pub is_unfinished : Option Verdict → Bool
is_unfinished (Some unfinished) = true
is_unfinished v = false

abbrev pub numbers_from : ℕ → ℕ → List ℕ
numbers_from first zero = []
numbers_from first (suc n) = first ∷ numbers_from (suc first) n

-- of so many goals, those whose last verdict was `unfinished`, ascending
abbrev pub unfinished_goals : ℕ → List Commit → List ℕ
unfinished_goals goals history = filter (λ k. is_unfinished (last_verdict None k history)) (numbers_from 1 goals)

abbrev pub or_failed : ℕ → Verdict → Option ℕ → Option ℕ
or_failed k fail later = Some k
or_failed k v later = later

-- the goal that failed, where one did
abbrev pub failed_goal : List Commit → Option ℕ
failed_goal [] = None
failed_goal (c ∷ cs) = or_failed c.goal c.verdict (failed_goal cs)
