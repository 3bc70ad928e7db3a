-- The views that seats come to have.
use Rattle.std.specs.Prelude.{ℕ, ◌+◌, ◌-◌, List, [], ◌∷◌, Bool, true, false, cond, Option, Some, None}
use Rattle.pp_turn.specs.Logs.{longer}
use Rattle.pp_turn.specs.declared.view.View.{View}

module _ {L B : Type 0} where
  abbrev pub view : Option B → ℕ → ℕ → List L → List L → List L → Bool → ℕ → Bool → List L → View L B
  view base number span seen left right waits ticket in_turn kept =
      record { base = base; number = number; span = span; seen = seen; left = left; right = right; waits = waits; ticket = ticket; in_turn = in_turn; kept = kept }

  -- at rest: no ticket, and not in the turn
  abbrev pub at_rest : Option B → ℕ → ℕ → List L → View L B
  at_rest b number span seen = view b number span seen [] [] false 0 false []

  abbrev pub opened : B → ℕ → View L B
  opened b seats = at_rest (Some b) 0 seats []

  abbrev pub holding : View L B → ℕ → View L B
  holding v ticket = view v.base v.number v.span v.seen [] [] true ticket false []

  abbrev pub served : View L B → ℕ → List L → View L B
  served v ticket log = view v.base v.number v.span v.seen [] [] true ticket true log

  abbrev pub lower : View L B → View L B
  lower v = at_rest v.base v.number 1 v.seen

  abbrev pub upper : View L B → View L B
  upper v = at_rest v.base (v.number + 1) (v.span - 1) v.seen

  abbrev pub joined : View L B → View L B → View L B
  joined v w = view v.base v.number (v.span + w.span) (longer v.seen w.seen) v.seen w.seen false 0 false []

  abbrev pub spent : View L B
  spent = at_rest None 0 0 []

  -- how many numbers the seats have
  abbrev pub spans : List (View L B) → ℕ
  spans [] = 0
  spans (v ∷ vs) = v.span + spans vs

  -- how many seats have a ticket
  abbrev pub waiting : List (View L B) → ℕ
  waiting [] = 0
  waiting (v ∷ vs) = cond v.waits 1 0 + waiting vs
