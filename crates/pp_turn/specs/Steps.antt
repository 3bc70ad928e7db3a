-- What each kind of step tells the seat that makes it.
use Rattle.std.specs.Prelude.{◌≡◌, ◌≢◌, ℕ, List, [], ◌∷◌, true, false, Option, Some}
use Rattle.pp_turn.specs.Logs.{Ordered, Later}
use Rattle.pp_turn.specs.Views.{at_rest, holding, served}
use Rattle.pp_turn.specs.declared.view.View.{View}
use Rattle.atomic_table.specs.Table.{Step, Me}

module _ {L B : Type 0} where
  abbrev pub drawn : {S : Type 0} → Step S → Me S (View L B) → ℕ → Me S (View L B) → Type 0
  drawn st m n w = (w.0 ≡ holding m.0 n) × (w.1 ≡ m.1)

  -- the seat has the value, whose log is what it saw and then entries of others
  abbrev pub Served : {T : Type 0} → (T → List L) → (L → ℕ) → (T → B) → Me (Option T) (View L B) → Me (Option T) (View L B) → Type 0
  Served {T} log bearer base m w =
      (x : T) × (Some (base x) ≡ m.0.base) × Later bearer m.0.number m.0.seen (log x) × (w.0 ≡ served m.0 m.0.ticket (log x)) × (w.1 ≡ (0, Some x) ∷ m.1)

  -- the seat found its ticket, and has the value; or it found another
  abbrev pub looked : {T : Type 0} → (T → List L) → (L → ℕ) → (T → B) → Step (Option T) → Me (Option T) (View L B) → ℕ → Me (Option T) (View L B) → Type 0
  looked log bearer base st m n w = (n ≡ m.0.ticket → Served log bearer base m w) × (n ≢ m.0.ticket → w ≡ m)

  -- the seat gave the value back, and saw its log
  abbrev pub passed : {T : Type 0} → (T → List L) → Step (Option T) → Me (Option T) (View L B) → ℕ → Me (Option T) (View L B) → Type 0
  passed {T} log st m n w = (x : T) × (m.1 ≡ (0, Some x) ∷ []) × (w.0 ≡ at_rest m.0.base m.0.number m.0.span (log x)) × (w.1 ≡ [])

  -- of the two logs one begins the other
  abbrev pub compared : {S : Type 0} → Step S → Me S (View L B) → ℕ → Me S (View L B) → Type 0
  compared st m n w = Ordered m.0.left m.0.right × (w ≡ (at_rest m.0.base m.0.number m.0.span m.0.seen, m.1))

  abbrev pub Waits : {S : Type 0} → Me S (View L B) → ℕ → Type 0
  Waits m ticket = (m.0.waits ≡ true) × (m.0.in_turn ≡ false) × (m.0.ticket ≡ ticket) × (m.1 ≡ [])
