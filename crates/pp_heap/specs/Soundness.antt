-- The invariant of bindings.
use Rattle.std.specs.Prelude.{◌≡◌, ℕ, ℤ, suc, ◌<◌, ◌≤◌, ◌^◌, List, [], ◌∷◌, ◌++◌, length, All, Option, Some, None}
use Rattle.std.specs.FinSet as set
use Rattle.pp_row.specs.declared.cell.Cell.{Cell}
use Rattle.pp_row.specs.declared.cell.Cell.TheVariants as cells
use Rattle.pp_row.specs.Reading.{IsForest}
use Rattle.pp_algebra.specs.Terms.{put, variables}
use Rattle.pp_algebra.specs.Covers.{IsIn}
use Rattle.pp_algebra.specs.Members.{IsInteger}
use Rattle.pp_domain.specs.Sets.{set_of}
use Rattle.pp_heap.specs.declared.state.Slot.TheVariants.{Free}
use Rattle.pp_heap.specs.declared.state.Value.{Value}
use Rattle.pp_heap.specs.declared.state.Value.TheVariants.{Variable, Int, Atom, Compound}
use Rattle.pp_heap.specs.declared.state.Entry.{Entry}
use Rattle.pp_heap.specs.declared.state.Entry.TheVariants.{Grown, Held, Bound, Narrowed, Added, Defined}
use Rattle.pp_heap.specs.declared.state.State.{State}
use Rattle.pp_heap.specs.Values.{slot_at, cell_at, slot_of, value_term}
use Rattle.pp_heap.specs.Stores.{Store, store_of, entries_of, before, undone, made}

abbrev pub IsCompound : Cell → Type 0
IsCompound (cells.Int n) = ⊥
IsCompound (cells.Atom a) = ⊥
IsCompound (cells.Compound f k) = Unit {0}
IsCompound (cells.Var v) = ⊥

-- an integer, an atom or a compound of the heap
abbrev pub IsFixed : List Cell → Value → Type 0
IsFixed heap (Variable w) = ⊥
IsFixed heap (Int n) = IsInteger n
IsFixed heap (Atom a) = Unit {0}
IsFixed heap (Compound p) = (p < length heap) × IsCompound (cell_at heap p)

-- what the variable x may be bound to: an earlier variable, or an integer, an atom or a compound of the heap
abbrev pub IsTarget : List Cell → ℕ → Value → Type 0
IsTarget heap x (Variable w) = w < x
IsTarget heap x (Int n) = IsInteger n
IsTarget heap x (Atom a) = Unit {0}
IsTarget heap x (Compound p) = (p < length heap) × IsCompound (cell_at heap p)

-- there is a domain at this place
abbrev pub IsPlace : List (List (ℤ × ℤ)) → Option ℕ → Type 0
IsPlace ds None = Unit {0}
IsPlace ds (Some d) = d < length ds

-- the heap is whole terms over the variables, and the slots speak of terms and domains that are there
pub record IsLinked (st : Store) : Type 0 where
  pub forest : IsForest st.heap
  pub variables : (p v : ℕ) → cell_at st.heap p ≡ cells.Var v → v < length st.slots
  pub bound : (v : ℕ) (c : Value) → slot_at st.slots v ≡ slot_of c → IsTarget st.heap v c
  pub free : (v : ℕ) (d : Option ℕ) → slot_at st.slots v ≡ Free d → IsPlace st.domains d
  pub wide : All (λ ps. 2 ≤ set.len (set_of ps)) st.domains

-- the variable that a change names is there
abbrev pub IsWithin : Entry → Store → Type 0
IsWithin (Grown n) st = Unit {0}
IsWithin (Held n) st = Unit {0}
IsWithin (Bound x d) st = x < length st.slots
IsWithin (Narrowed x d) st = x < length st.slots
IsWithin (Added n) st = Unit {0}
IsWithin (Defined n) st = Unit {0}

-- the contents are those after the change
abbrev pub IsStep : Entry → List Entry → Store → Type 0
IsStep (Grown n) es st = n ≤ length st.heap
IsStep (Held n) es st = n ≤ length st.domains
IsStep (Bound x d) es st = (c : Value) × (slot_at st.slots x ≡ slot_of c) × (IsIn x (variables (put (made es (before (Bound x d) st)) (value_term st.heap c))) → ⊥)
IsStep (Narrowed x d) es st = (e : Option ℕ) × (slot_at st.slots x ≡ Free e) × (x < length st.slots)
IsStep (Added n) es st = (n ≤ length st.slots) × ((v : ℕ) → n ≤ v → (d : Option ℕ) × (slot_at st.slots v ≡ Free d))
IsStep (Defined n) es st = (c : Value) × (slot_at st.slots n ≡ slot_of c) × (IsIn n (variables (put (made es (before (Defined n) st)) (value_term st.heap c))) → ⊥) × (length st.slots ≡ suc n)

-- each change was made to contents that were linked; there was no variable before the first
abbrev pub IsSound : List Entry → Store → Type 0
IsSound [] st = st.slots ≡ []
IsSound (e ∷ es) st = IsStep e es st × IsLinked (before e st) × IsSound es (before e st)

pub record IsGood (s : State) : Type 0 where
  pub linked : IsLinked (store_of s)
  pub sound : IsSound (entries_of s) (store_of s)
  pub small : length s.heap.items < 2 ^ 32
  pub few : length s.slots.items ≤ 2 ^ 32

-- undoing the later changes gives the earlier state
pub record IsKept (old new : State) : Type 0 where
  pub later : List Entry
  pub entries : entries_of new ≡ later ++ entries_of old
  pub undone : undone later (store_of new) ≡ store_of old
