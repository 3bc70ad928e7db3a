-- A goal's verdict under a store, what it makes of the goals that wait, and what the watchers note of it.
use Rattle.std.specs.Prelude.{◌≡◌, ℕ, Bool, true, false, List, [], ◌∷◌, ◌++◌, length, Some}
use Rattle.pp_algebra.specs.Terms.{count}
use Rattle.pp_algebra.specs.Rows.{Row}
use Rattle.pp_sld.specs.Goals.{Program, Shape}
use Rattle.pp_sld.specs.Verdicts.{Mode, Verdict, fail, narrow, HasVerdict}
use Rattle.pp_propagation.specs.Stores.{Asked, face}
use Rattle.pp_propagation.specs.Turns.{goal_at, woken, store_after, committed}
use Rattle.pp_propagation.specs.Histories.{Change, changes_from}
use Rattle.pp_propagation.specs.Watchers.{Watcher, after, NotedInPart}

abbrev pub is_fail : Verdict → Bool
is_fail fail = true
is_fail v = false

-- the goal of this number has this verdict under its face
abbrev pub IsVerdictAt : Program → List Asked → ℕ → Row → ℕ → Verdict → Type 0
IsVerdictAt clauses goals depth store k v = (a : Asked) → goal_at goals k ≡ Some a
    → HasVerdict clauses depth a.mode a.goal.shape (face store a.goal) v

-- this shape, mode and face are searched for the goal of this number
abbrev pub IsQuestionAt : List Asked → Row → ℕ → Shape → Mode → Row → Type 0
IsQuestionAt goals store k shape mode under = (a : Asked) → goal_at goals k ≡ Some a
    → (a.goal.shape ≡ shape) × (a.mode ≡ mode) × (face store a.goal ≡ under)

-- a row to which a goal is narrowed has a column for each variable of its face
abbrev pub IsWideAt : Row → Verdict → Type 0
IsWideAt under (narrow given) = count given.columns ≡ length under.domains
IsWideAt under v = Unit {0}

-- the goals that wait after a turn; where it narrowed, those whose face changed are woken
abbrev pub waits_after : List Asked → Row → Row → List ℕ → Verdict → List ℕ
waits_after goals old new later (narrow given) = later ++ woken old new later 1 goals
waits_after goals old new later v = later

-- a turn of goal number k, by its number and the goal's verdict
pub record TurnOf : Type 0 where
  pub turn : ℕ
  pub goal : ℕ
  pub verdict : Verdict

-- what changes in that turn, where that is anything
abbrev pub changes_in : TurnOf → Row → Asked → List Change
changes_in t store a = changes_from t.turn (committed store t.goal a t.verdict ∷ [])

-- the store is that after the turn
abbrev pub IsAfterTurn : List Asked → TurnOf → Row → Row → Type 0
IsAfterTurn goals t store new = (a : Asked) → goal_at goals t.goal ≡ Some a → new ≡ store_after store a.goal t.verdict

-- the watchers noted the turn
pub record HaveNotedTurn (goals : List Asked) (t : TurnOf) (store : Row) (old new : List Watcher) : Type 0 where
  pub noted : (a : Asked) → goal_at goals t.goal ≡ Some a → new ≡ after old (changes_in t store a)

-- the first of them did
pub record HaveNotedInPart (goals : List Asked) (t : TurnOf) (store : Row) (old new : List Watcher) : Type 0 where
  pub noted : (a : Asked) → goal_at goals t.goal ≡ Some a → NotedInPart (changes_in t store a) [] old new

-- a turn that was broken off for want of memory: nothing was done, or some watchers were told, or all was done
pub data IsBrokenOff (goals : List Asked) (t : TurnOf) (store next : Row) (old new : List Watcher) : Type 0 where
  before_it : next ≡ store → new ≡ old → IsBrokenOff goals t store next old new
  while_told : is_fail t.verdict ≡ false → next ≡ store → HaveNotedInPart goals t store old new
      → IsBrokenOff goals t store next old new
  behind_it : IsAfterTurn goals t store next → HaveNotedTurn goals t store old new
      → IsBrokenOff goals t store next old new
