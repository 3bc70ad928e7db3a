-- What watchers noted of the change of a turn that narrowed its goal.
use Rattle.std.proofs.Common.{◌≡◌, ◌⊎◌, inl, inr, ℕ, Bool, true, false, List, [], ◌∷◌, Some, All, refl, sym, subst}
use Rattle.pp_algebra.specs.Rows.{Row}
use Rattle.pp_sld.specs.Goals.{Program, Shape}
use Rattle.pp_sld.specs.Verdicts.{Mode, HasVerdict, Verdict, fail, same, nothing, unfinished, narrow}
use Rattle.pp_propagation.specs.Stores.{Asked, face, apply}
use Rattle.pp_propagation.specs.Turns.{goal_at}
use Rattle.pp_propagation.specs.Histories.{Change}
use Rattle.pp_propagation.specs.Watchers.{Watcher, HasRoom, after, NotedInPart}
use Rattle.pp_propagation.proofs.Watching.{nothing_noted}
use Rattle.pp_fix.specs.Committing.{IsQuestionAt, IsVerdictAt, TurnOf, HaveNotedTurn, HaveNotedInPart, IsAfterTurn, IsBrokenOff, before_it, behind_it}

module _ (goals : List Asked) (store : Row) (turn k : ℕ) (given row : Row) (same : (a : Asked) → goal_at goals k ≡ Some a → row ≡ apply store a.goal given) (old new : List Watcher) (c : Change) where
  pub whole_turn : new ≡ after old (c ∷ []) → c ≡ record { turn = turn; goal = k; given = given; store = row } → HaveNotedTurn goals (record { turn = turn; goal = k; verdict = narrow given }) store old new
  whole_turn h is = record { noted = λ a e. subst (λ r. new ≡ after old (record { turn = turn; goal = k; given = given; store = r } ∷ [])) (same a e) (subst (λ x. new ≡ after old (x ∷ [])) is h) }

  pub part_of_turn : NotedInPart (c ∷ []) [] old new → c ≡ record { turn = turn; goal = k; given = given; store = row } → HaveNotedInPart goals (record { turn = turn; goal = k; verdict = narrow given }) store old new
  part_of_turn h is = record { noted = λ a e. subst (λ r. NotedInPart (record { turn = turn; goal = k; given = given; store = r } ∷ []) [] old new) (same a e) (subst (λ x. NotedInPart (x ∷ []) [] old new) is h) }

abbrev pub narrows : Verdict → Bool
narrows (narrow given) = true
narrows v = false

-- no watcher is told of a turn that narrowed nothing
pub quiet_turn : (goals : List Asked) (store : Row) (turn k : ℕ) (v : Verdict) (ws : List Watcher) → All HasRoom ws → narrows v ≡ false → HaveNotedTurn goals (record { turn = turn; goal = k; verdict = v }) store ws ws
quiet_turn goals store turn k fail ws h e = record { noted = λ _ _. sym (nothing_noted ws h) }
quiet_turn goals store turn k same ws h e = record { noted = λ _ _. sym (nothing_noted ws h) }
quiet_turn goals store turn k nothing ws h e = record { noted = λ _ _. sym (nothing_noted ws h) }
quiet_turn goals store turn k unfinished ws h e = record { noted = λ _ _. sym (nothing_noted ws h) }
quiet_turn goals store turn k (narrow given) ws h e = let f : true ≡ false = e in absurd (cc (f))

-- where there are no watchers, they have noted each turn
pub unwatched : (goals : List Asked) (store : Row) (t : TurnOf) (ws : List Watcher) → ws ≡ [] → HaveNotedTurn goals t store ws ws
unwatched goals store t ws e = subst (λ vs. HaveNotedTurn goals t store vs vs) (sym e) (record { noted = λ _ _. refl })

pub broken_unwatched : (goals : List Asked) (t : TurnOf) (store next : Row) (ws : List Watcher) → ws ≡ [] → (next ≡ store) ⊎ IsAfterTurn goals t store next → IsBrokenOff goals t store next ws ws
broken_unwatched goals t store next ws e (inl f) = before_it f refl
broken_unwatched goals t store next ws e (inr f) = behind_it f (unwatched goals store t ws e)

-- the verdict of what is searched for a goal is that of the goal
pub answers_question : (clauses : Program) (goals : List Asked) (depth : ℕ) (store : Row) (k : ℕ) (shape : Shape) (m : Mode) (under : Row) (v : Verdict)
    → IsQuestionAt goals store k shape m under → HasVerdict clauses depth m shape under v → IsVerdictAt clauses goals depth store k v
answers_question clauses goals depth store k shape m under v q h a e =
    let is = q a e in
    subst (λ n. HasVerdict clauses depth n a.goal.shape (face store a.goal) v) (sym is.1)
    (subst (λ s. HasVerdict clauses depth m s (face store a.goal) v) (sym is.0) (subst (λ r. HasVerdict clauses depth m shape r v) (sym is.2) h))
