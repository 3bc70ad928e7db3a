-- What becomes of two lists of terms that are to be equal, where variables may be added on the way.
use Rattle.std.specs.Prelude.{◌≡◌, ℕ, ◌+◌, ◌<◌, ◌≤◌, ◌↔◌, Bool, true, false, List, length}
use Rattle.pp_row.specs.declared.cell.Cell.{Cell}
use Rattle.pp_row.specs.declared.cell.Cell.TheVariants as cells
use Rattle.pp_row.specs.Reading.{forest}
use Rattle.pp_algebra.specs.Terms.{Tree, Trees, put_all}
use Rattle.pp_algebra.specs.Rows.{Domains}
use Rattle.pp_heap.specs.declared.state.State.{State}
use Rattle.pp_heap.specs.Values.{cell_at, slot_at}
use Rattle.pp_heap.specs.Stores.{store_of}
use Rattle.pp_heap.specs.Agreement.{Agrees, AllWide}
use Rattle.pp_heap.specs.Soundness.{IsGood, IsKept}
use Rattle.pp_unify.specs.Counting.{counted}

-- sound after the same changes and maybe more
pub record IsOnward (old new : State) : Type 0 where
  pub good : IsGood new
  pub kept : IsKept old new

-- each variable of the cells, counted from a first number, is below this one
abbrev pub AreBelow : ℕ → ℕ → List Cell → Type 0
AreBelow n first head = (p v : ℕ) → cell_at head p ≡ cells.Var v → first + v < n

-- variables were added only up to those of the head
pub record IsWider (old new : State) (first : ℕ) (head : List Cell) : Type 0 where
  pub more : length old.slots.items ≤ length new.slots.items
  pub bounded : (n : ℕ) → length old.slots.items ≤ n → AreBelow n first head → length new.slots.items ≤ n

-- s makes both lists equal, each counted from a first number
abbrev pub AreAlike : (ℕ → Tree ℕ) → ℕ → Trees ℕ → ℕ → Trees ℕ → Type 0
AreAlike s n ts m us = put_all (counted n s) ts ≡ put_all (counted m s) us

abbrev pub JoinedBy : State → State → ℕ → Trees ℕ → ℕ → Trees ℕ → Type 0
JoinedBy old new n ts m us = (ds : Domains ℕ) (s : ℕ → Tree ℕ) → AllWide ds → Agrees (store_of new) ds s ↔ (Agrees (store_of old) ds s × AreAlike s n ts m us)

abbrev pub NeverAlike : State → ℕ → Trees ℕ → ℕ → Trees ℕ → Type 0
NeverAlike old n ts m us = (ds : Domains ℕ) (s : ℕ → Tree ℕ) → AllWide ds → Agrees (store_of old) ds s → AreAlike s n ts m us → ⊥

-- the state where a goal's terms and a head's are equal, or none
abbrev pub AreJoined : State → State → ℕ → List Cell → ℕ → List Cell → Bool → Type 0
AreJoined old new n goal m head true = IsWider old new m head × JoinedBy old new n (forest goal) m (forest head)
AreJoined old new n goal m head false = NeverAlike old n (forest goal) m (forest head)

-- the same where all variables of the head, so many of them, were added
abbrev pub IsEntered : State → State → ℕ → List Cell → List Cell → ℕ → Bool → Type 0
IsEntered old new n goal head amount true = (length new.slots.items ≡ length old.slots.items + amount) × JoinedBy old new n (forest goal) (length old.slots.items) (forest head)
IsEntered old new n goal head amount false = NeverAlike old n (forest goal) (length old.slots.items) (forest head)

-- as many free variables more as it takes to have so many
pub record IsRaised (old new : State) (n : ℕ) : Type 0 where
  pub more : length old.slots.items ≤ length new.slots.items
  pub reached : n ≤ length new.slots.items
  pub bounded : (m : ℕ) → length old.slots.items ≤ m → n ≤ m → length new.slots.items ≤ m
  pub heap : new.heap.items ≡ old.heap.items
  pub slots : (v : ℕ) → slot_at new.slots.items v ≡ slot_at old.slots.items v
  pub alike : (ds : Domains ℕ) (s : ℕ → Tree ℕ) → Agrees (store_of old) ds s ↔ Agrees (store_of new) ds s
