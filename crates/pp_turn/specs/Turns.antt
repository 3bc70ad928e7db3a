-- The rule of the lock: what its words, its slot and the views of its seats have to do with one another.
use Rattle.std.specs.Prelude.{◌≡◌, ◌≢◌, ℕ, ◌+◌, ◌^◌, ◌<◌, ◌≤◌, List, [], ◌∷◌, ◌++◌, true, false, Option, Some}
use mathlib.Core.Option.{some}
use lib.ListN.{get_elem?}
use Rattle.pp_turn.specs.Logs.{Each, Ordered, Outside}
use Rattle.pp_turn.specs.Views.{spans, waiting}
use Rattle.pp_turn.specs.declared.view.View.{View}
use Rattle.atomic_table.specs.Table.{State}

module _ {L B : Type 0} where
  -- two views have different tickets, and spans without a common number
  pub record Apart (v w : View L B) : Type 0 where
    pub ticket : v.waits ≡ true → w.waits ≡ true → v.ticket ≢ w.ticket
    pub span : v.number ≤ w.number → 0 < w.span → v.number + v.span ≤ w.number

  -- the log is what the seat saw, and then entries of others
  pub record Knows (bearer : L → ℕ) (b : B) (log : List L) (v : View L B) : Type 0 where
    pub based : v.base ≡ Some b
    pub later : List L
    pub begins : log ≡ v.seen ++ later
    pub others : Each (λ e. Outside v.number v.span (bearer e)) later

  pub record Fits (bearer : L → ℕ) (seats : ℕ) (b : B) (log : List L) (ticket serving : ℕ) (v : View L B) : Type 0 where
    pub knows : 0 < v.span → Knows bearer b log v
    pub beside : Ordered v.left v.right
    pub inside : v.number + v.span ≤ seats
    pub some_number : v.waits ≡ true → 0 < v.span
    pub from : v.waits ≡ true → serving ≤ v.ticket
    pub below : v.waits ≡ true → v.ticket < ticket
    pub turn : v.in_turn ≡ true → (v.waits ≡ true) × (v.ticket ≡ serving) × (v.ticket < 2 ^ 63) × (v.kept ≡ log)

  module _ {T : Type 0} (log : T → List L) (bearer : L → ℕ) (base : T → B) (seats : ℕ) where
    pub record Held (s : State (Option T) (View L B)) : Type 0 where
      pub b : B
      pub now : List L
      pub ticket : ℕ
      pub serving : ℕ
      pub words : s.words ≡ ticket ∷ serving ∷ []
      pub few : serving ≤ 2 ^ 63
      pub count : serving + waiting s.views ≡ ticket
      pub few_seats : seats ≤ 65
      pub numbers : spans s.views ≡ seats
      pub entries : Each (λ e. bearer e < seats) now
      pub each : (id : ℕ) (v : View L B) → get_elem? s.views id ≡ some v → Fits bearer seats b now ticket serving v
      pub apart : (i j : ℕ) (v w : View L B) → i ≢ j → get_elem? s.views i ≡ some v → get_elem? s.views j ≡ some w → Apart v w
      pub home : ((id : ℕ) (v : View L B) → get_elem? s.views id ≡ some v → v.in_turn ≡ false) → (x : T) × (s.homes ≡ some (Some x) ∷ []) × (base x ≡ b) × (log x ≡ now)
