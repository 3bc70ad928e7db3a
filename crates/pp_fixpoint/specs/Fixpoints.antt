-- What a run has come to where no goal waits, and how many turns are enough to come there.
use Rattle.std.specs.Prelude.{◌≡◌, ◌↔◌, ◌⊎◌, ℕ, ◌+◌, ◌*◌, ◌≤◌, List, length, Option, Some, None, All}
use Rattle.pp_algebra.specs.Rows.{Domain, Row, IsRow}
use Rattle.pp_algebra.specs.Covers.{IsIn}
use Rattle.pp_sld.specs.Goals.{Program}
use Rattle.pp_sld.specs.Verdicts.{Verdict, same, nothing, unfinished, HasVerdict}
use Rattle.pp_language.specs.Told.{sum_of_sizes}
use Rattle.pp_propagation.specs.Stores.{Asked, face}
use Rattle.pp_propagation.specs.Turns.{goal_at}

-- the goal has this verdict under this store
abbrev pub HasVerdictUnder : Program → ℕ → Row → Asked → Verdict → Type 0
HasVerdictUnder clauses depth store a v = HasVerdict clauses depth a.mode a.goal.shape (face store a.goal) v

-- the goal neither fails nor narrows
abbrev pub IsAtRest : Verdict → Type 0
IsAtRest v = (v ≡ same) ⊎ ((v ≡ nothing) ⊎ (v ≡ unfinished))

-- under this store no goal fails or narrows, and the goals with these numbers are those that are unfinished
pub record IsFixpoint (clauses : Program) (goals : List Asked) (depth : ℕ) (store : Row) (list : List ℕ) : Type 0 where
  pub at_rest : (k : ℕ) (a : Asked) → goal_at goals k ≡ Some a
      → (v : Verdict) × HasVerdictUnder clauses depth store a v × IsAtRest v
  pub listed : (k : ℕ) → IsIn k list
      ↔ ((a : Asked) × (goal_at goals k ≡ Some a) × HasVerdictUnder clauses depth store a unfinished)

abbrev pub IsFinite : Option Domain → Type 0
IsFinite None = ⊥
IsFinite (Some d) = Unit {0}

-- each variable of the store has a finite domain, and for each goal there is a turn and one more for each integer in
-- the domains
pub record AreEnoughTurns (goals : List Asked) (store : Row) (turns : ℕ) : Type 0 where
  pub row : IsRow store
  pub finite : All IsFinite store.domains
  pub many : length goals * (sum_of_sizes store.domains + 1) ≤ turns
