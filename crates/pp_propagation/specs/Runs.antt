-- A run: turns until no goal waits, a goal fails, or the set number of turns was made.
use Rattle.std.specs.Prelude.{◌≡◌, ℕ, zero, suc, ◌+◌, List, [], ◌∷◌, ◌++◌, length, Some, None}
use Rattle.pp_algebra.specs.Terms.{none}
use Rattle.pp_algebra.specs.Rows.{Row}
use Rattle.pp_sld.specs.Goals.{Program}
use Rattle.pp_language.specs.Programs.{Query}
use Rattle.pp_propagation.specs.Stores.{Asked, goals_of, Begins, BeginsNowhere}
use Rattle.pp_propagation.specs.Turns.{Commit, State, Turn}
use Rattle.pp_propagation.specs.Histories.{numbers_from, changes}
use Rattle.pp_propagation.specs.Watchers.{Watcher, after, NotedInPart}

pub data End : Type 0 where
  yes no stopped : End

-- how it ended, the store, and all turns that were made
pub record Run : Type 0 where
  pub end : End
  pub store : Row
  pub history : List Commit

abbrev pub ended : End → State → Run
ended e s = record { end = e; store = s.store; history = s.history }

-- the turn in which the goal failed counts, and leaves the store
abbrev pub failed : State → Commit → Run
failed s c = record { end = no; store = s.store; history = s.history ++ c ∷ [] }

-- all goals wait in textual order, and nothing was done
abbrev pub opening : List Asked → Row → State
opening goals store = record { store = store; waiting = numbers_from 1 (length goals); history = [] }

-- the run of a query whose equations and domain items have no solution
abbrev pub no_store : Run
no_store = record { end = no; store = record { columns = none; domains = [] }; history = [] }

-- how a run ends in a state, with so many turns left
pub data Ends (clauses : Program) (goals : List Asked) (depth left : ℕ) (s : State) (r : Run) : Type 0 where
  none_waits : s.waiting ≡ [] → r ≡ ended yes s → Ends clauses goals depth left s r
  turns_are_made : (s.waiting ≡ [] → ⊥) → left ≡ 0 → r ≡ ended stopped s → Ends clauses goals depth left s r
  goal_fails : (more : ℕ) → left ≡ suc more → (c : Commit) → Turn clauses goals depth s c None → r ≡ failed s c
      → Ends clauses goals depth left s r

module _ (clauses : Program) (goals : List Asked) (depth : ℕ) where
  -- so many whole turns lead from one state to another
  abbrev pub Turns : ℕ → State → State → Type 0
  Turns zero s t = s ≡ t
  Turns (suc n) s t = (c : Commit) × (u : State) × Turn clauses goals depth s c (Some u) × Turns n u t

  -- with so many turns left, the run goes on from this state so
  pub record IsRunOn (turns : ℕ) (s : State) (r : Run) : Type 0 where
    pub made : ℕ
    pub left : ℕ
    pub within : made + left ≡ turns
    pub last : State
    pub leads : Turns made s last
    pub ends : Ends clauses goals depth left last r

  -- the run from a store that is lent
  abbrev pub IsRunFrom : ℕ → Row → Run → Type 0
  IsRunFrom turns store r = IsRunOn turns (opening goals store) r

-- the watchers between two turns, or where memory was wanted while they were told of the change of the next one
pub data HaveNoted (clauses : Program) (goals : List Asked) (depth : ℕ) (s : State)
    (old new : List Watcher) : Type 0 where
  all_changes : new ≡ after old (changes s.history) → HaveNoted clauses goals depth s old new
  part_of_the_next : (c : Commit) (next : State) → Turn clauses goals depth s c (Some next)
      → NotedInPart (changes next.history) (changes s.history) old new → HaveNoted clauses goals depth s old new

-- the run of a query over a program, at a depth and with so many turns at most
pub data IsRun (clauses : Program) (q : Query) (depth turns : ℕ) (r : Run) : Type 0 where
  begins_nowhere : BeginsNowhere q → r ≡ no_store → IsRun clauses q depth turns r
  begins : (store : Row) → Begins q store → IsRunFrom clauses (goals_of q.items) depth turns store r
      → IsRun clauses q depth turns r
