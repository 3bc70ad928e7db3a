-- One turn of a run: what is committed for the goal whose turn it is, and what that makes of the state between two
-- turns.
use Rattle.std.specs.Prelude.{◌≡◌, ℕ, zero, suc, not, ◌&&◌, cond, nat_eq, List, [], ◌∷◌, ◌++◌, Option, Some, None}
use Rattle.pp_algebra.specs.Rows.{Row}
use Rattle.pp_algebra.specs.Canon.{has, same_row}
use Rattle.pp_sld.specs.Goals.{Goal, Program}
use Rattle.pp_sld.specs.Verdicts.{Verdict, fail, narrow, HasVerdict}
use Rattle.pp_propagation.specs.Stores.{Asked, face, apply}

-- a turn that was made: the goal's number, its face, the verdict of its search, and the store after it
pub record Commit : Type 0 where
  pub goal : ℕ
  pub face : Row
  pub verdict : Verdict
  pub store : Row

-- between two turns: the store, the goals that wait, first the one whose turn comes, and all turns so far
pub record State : Type 0 where
  pub store : Row
  pub waiting : List ℕ
  pub history : List Commit

-- goal number k, counted from 1
abbrev pub goal_at : List Asked → ℕ → Option Asked
goal_at [] k = None
goal_at (a ∷ later) zero = None
goal_at (a ∷ later) (suc zero) = Some a
goal_at (a ∷ later) (suc (suc k)) = goal_at later (suc k)

-- the store after a turn of the goal with this verdict
abbrev pub store_after : Row → Goal ℕ → Verdict → Row
store_after store g (narrow given) = apply store g given
store_after store g v = store

-- what is committed for goal number k, the goal `a`, with this verdict
abbrev pub committed : Row → ℕ → Asked → Verdict → Commit
committed store k a v = record { goal = k; face = face store a.goal; verdict = v; store = store_after store a.goal v }

-- the goals from number k on whose face isn't what it was and that don't wait, ascending
abbrev pub woken : Row → Row → List ℕ → ℕ → List Asked → List ℕ
woken old new waiting k [] = []
woken old new waiting k (a ∷ later) =
    cond (not (same_row (face old a.goal) (face new a.goal)) && not (has nat_eq waiting k))
    (k ∷ woken old new waiting (suc k) later) (woken old new waiting (suc k) later)

abbrev pub commit : State → List ℕ → Commit → State
commit s waiting c = record { store = c.store; waiting = waiting; history = s.history ++ c ∷ [] }

-- what a turn of goal number k, the goal `a`, with this verdict makes of a state in which these goals wait after it:
-- None where the goal fails
abbrev pub turned : List Asked → List ℕ → ℕ → Asked → Verdict → State → Option State
turned goals later k a fail s = None
turned goals later k a (narrow given) s = Some
    (commit s (later ++ woken s.store (apply s.store a.goal given) later 1 goals)
    (committed s.store k a (narrow given)))
turned goals later k a v s = Some (commit s later (committed s.store k a v))

-- the first goal that waits in a state has its turn, which is committed so and makes this of the state
pub record Turn (clauses : Program) (goals : List Asked) (depth : ℕ) (s : State) (c : Commit)
    (after : Option State) : Type 0 where
  pub asked : Asked
  pub later : List ℕ
  pub first : s.waiting ≡ c.goal ∷ later
  pub is_goal : goal_at goals c.goal ≡ Some asked
  pub has_verdict : HasVerdict clauses depth asked.mode asked.goal.shape (face s.store asked.goal) c.verdict
  pub commits : c ≡ committed s.store c.goal asked c.verdict
  pub leads : after ≡ turned goals later c.goal asked c.verdict s
