-- The next term of what is left of a goal is taken, to be met with a head's next one.
use Rattle.std.specs.Prelude.{◌≡◌, ℕ, suc, ◌+◌, ◌↔◌, List}
use Rattle.pp_row.specs.declared.cell.Cell.{Cell}
use Rattle.pp_row.specs.Reading.{from}
use Rattle.pp_algebra.specs.Terms.{Tree, Trees, more, put_all, count, join}
use Rattle.pp_algebra.specs.Rows.{Domains}
use Rattle.pp_heap.specs.declared.spans.Span.{Span}
use Rattle.pp_heap.specs.declared.state.State.{State}
use Rattle.pp_heap.specs.declared.state.Value.{Value as Now}
use Rattle.pp_heap.specs.declared.state.Slot.{Slot}
use Rattle.pp_heap.specs.Values.{slot_of, value_term}
use Rattle.pp_heap.specs.Stores.{store_of}
use Rattle.pp_heap.specs.Agreement.{Agrees, AllWide}
use Rattle.pp_heap.specs.Outcomes.{IsNow}
use Rattle.pp_heap.specs.Spans.{terms_of}
use Rattle.pp_unify.specs.Counting.{counted}
use Rattle.pp_unify.specs.Forests.{counted_all}
use Rattle.pp_unify.specs.declared.join.Taken.{Taken}
use Rattle.pp_unify.specs.declared.join.Taken.TheVariants.{Apart, Alike, Value}

-- what is left of the goal: the work, and its terms from `at` on
abbrev pub left_of : State → List Span → ℕ → List Cell → ℕ → Trees ℕ
left_of a ws n goal at = join (terms_of a.heap.items ws) (counted_all n (from goal at))

-- the terms ts are the head's from `to` on where the terms us are its terms from the next cell on
pub record ArePassed (a : State) (ts us : Trees ℕ) (head : List Cell) (to : ℕ) : Type 0 where
  pub counts : count us + count (from head to) ≡ count ts + count (from head (to + 1))
  pub same : (m : ℕ) (ds : Domains ℕ) (s : ℕ → Tree ℕ) → AllWide ds → Agrees (store_of a) ds s → (put_all s us ≡ put_all (counted m s) (from head (to + 1))) ↔ (put_all s ts ≡ put_all (counted m s) (from head to))

-- the terms ts are this value and the terms us at the moment
pub record AreThis (a : State) (ts us : Trees ℕ) (c : Now) : Type 0 where
  pub now : IsNow (store_of a) c
  pub counts : count ts ≡ suc (count us)
  pub same : (ds : Domains ℕ) (s : ℕ → Tree ℕ) → Agrees (store_of a) ds s → put_all s ts ≡ put_all s (more (value_term a.heap.items c) us)

-- the next one of the terms ts was taken, and this is left
abbrev pub HasTaken : Trees ℕ → State → List Span → ℕ → List Cell → List Cell → ℕ → Taken → Type 0
HasTaken ts new now n goal head to Apart = (m : ℕ) (s : ℕ → Tree ℕ) → put_all s ts ≡ put_all (counted m s) (from head to) → ⊥
HasTaken ts new now n goal head to (Alike on) = ArePassed new ts (left_of new now n goal on) head to
HasTaken ts new now n goal head to (Value c on) = AreThis new ts (left_of new now n goal on) c

-- the same, as the slot of a variable that is bound to it
abbrev pub HasTakenSlot : Trees ℕ → State → List Span → ℕ → List Cell → Slot → ℕ → Type 0
HasTakenSlot ts new now n goal k on = (c : Now) × (k ≡ slot_of c) × AreThis new ts (left_of new now n goal on) c
