-- A clause's head against terms that are to be equal to it, cell by cell.
use Rattle.std.specs.Prelude.{◌≡◌, ℕ, ◌+◌, ◌<◌, ◌≤◌, ◌↔◌, Bool, true, false, List, length, All, Option, Some, None}
use Rattle.pp_row.specs.declared.cell.Cell.{Cell}
use Rattle.pp_row.specs.declared.cell.Cell.TheVariants as cells
use Rattle.pp_row.specs.Reading.{IsForest, from}
use Rattle.pp_algebra.specs.Terms.{Tree, Trees, variable, put_all, count, join}
use Rattle.pp_algebra.specs.Rows.{Domains}
use Rattle.pp_algebra.specs.Least.{rest}
use Rattle.pp_algebra.specs.Solve.{equation}
use Rattle.pp_heap.specs.declared.spans.Span.{Span}
use Rattle.pp_heap.specs.declared.state.Slot.{Slot}
use Rattle.pp_heap.specs.declared.state.Slot.TheVariants as slots
use Rattle.pp_heap.specs.declared.state.State.{State}
use Rattle.pp_heap.specs.Values.{cell_at, slot_at, slot_of, term_at}
use Rattle.pp_heap.specs.Stores.{Store, store_of}
use Rattle.pp_heap.specs.Soundness.{IsCompound}
use Rattle.pp_heap.specs.Outcomes.{IsNow, IsValue, IsSlotFor, AreMore}
use Rattle.pp_heap.specs.declared.state.Value.{Value}
use Rattle.pp_heap.specs.Agreement.{Agrees, AllWide, Follows, Excludes}
use Rattle.pp_heap.specs.Spans.{IsSpan, terms_of}
use Rattle.pp_algebra.specs.Numbered.{counted_from}
use Rattle.pp_unify.specs.Joining.{IsWider}
use Rattle.pp_unify.specs.Counting.{counted}

abbrev pub IsVariable : Cell → Type 0
IsVariable (cells.Int n) = ⊥
IsVariable (cells.Atom a) = ⊥
IsVariable (cells.Compound f k) = ⊥
IsVariable (cells.Var v) = Unit {0}

-- whole terms whose variables, counted from a first one, have slots
pub record IsHead (slots : List Slot) (first : ℕ) (head : List Cell) : Type 0 where
  pub forest : IsForest head
  pub among : (p v : ℕ) → cell_at head p ≡ cells.Var v → first + v < length slots

-- the term at this place ends there
pub record IsPiece (head : List Cell) (at end : ℕ) : Type 0 where
  pub ends : from head end ≡ rest (from head at)
  pub later : at < end
  pub within : end ≤ length head

-- the term at this place is no compound, and is this value at the moment
pub record IsLeaf (st : Store) (first : ℕ) (head : List Cell) (at : ℕ) (c : Value) : Type 0 where
  pub plain : IsCompound (cell_at head at) → ⊥
  pub value : IsValue st (counted_from first (term_at head at)) c

-- the same, as the slot of a variable that is bound to it
pub record IsLeafSlot (st : Store) (first : ℕ) (head : List Cell) (at : ℕ) (k : Slot) : Type 0 where
  pub plain : IsCompound (cell_at head at) → ⊥
  pub slot : IsSlotFor st (counted_from first (term_at head at)) k

-- the slot of a variable that is bound to a value
abbrev pub IsSlotNow : Store → Slot → Type 0
IsSlotNow st k = (c : Value) × (k ≡ slot_of c) × IsNow st c

-- the head's cell at this place is the next variable, x, which has no slot yet
pub record IsNext (a : State) (first : ℕ) (head : List Cell) (at x : ℕ) : Type 0 where
  pub next : x ≡ length a.slots.items
  pub variable : ℕ
  pub cell : cell_at head at ≡ cells.Var variable
  pub number : x ≡ first + variable

-- bound to an integer or an atom
abbrev pub IsGround : Slot → Type 0
IsGround (slots.Free d) = ⊥
IsGround (slots.Alias w) = ⊥
IsGround (slots.Int n) = Unit {0}
IsGround (slots.Atom a) = Unit {0}
IsGround (slots.Compound p) = ⊥

-- each variable of the cells that has a slot, counted from a first one, is bound to an integer or an atom there
abbrev pub AreGround : List Slot → ℕ → List Cell → Type 0
AreGround ss first cs = (p v : ℕ) → cell_at cs p ≡ cells.Var v → first + v < length ss → IsGround (slot_at ss (first + v))

-- a variable is a term now, and is there
pub record MeetsVariable (old new : State) (t : Tree ℕ) (x : ℕ) : Type 0 where
  pub more : length old.slots.items ≤ length new.slots.items
  pub bounded : (n : ℕ) → length old.slots.items ≤ n → x < n → length new.slots.items ≤ n
  pub heap : new.heap.items ≡ old.heap.items
  pub follows : Follows old new (equation t (variable x))

abbrev pub HasMetVariable : State → State → Tree ℕ → ℕ → Bool → Type 0
HasMetVariable old new t x true = MeetsVariable old new t x
HasMetVariable old new t x false = Excludes old (equation t (variable x))

-- a term is the head's term at this place now
pub record IsStepped (old new : State) (t : Tree ℕ) (first : ℕ) (head : List Cell) (at : ℕ) : Type 0 where
  pub wider : IsWider old new first head
  pub heap : AreMore old.heap.items new.heap.items
  pub follows : Follows old new (equation t (counted_from first (term_at head at)))

abbrev pub HasStepped : State → State → Tree ℕ → ℕ → List Cell → ℕ → Bool → Type 0
HasStepped old new t first head at true = IsStepped old new t first head at
HasStepped old new t first head at false = Excludes old (equation t (counted_from first (term_at head at)))

-- the terms ts, and others after them, are to be the head's terms from `at` on; that is now so of the work and the head's terms from `next` on
pub record IsTurned (old new : State) (ts : Trees ℕ) (now : List Span) (first : ℕ) (head : List Cell) (at next : ℕ) : Type 0 where
  pub later : at < next
  pub wider : IsWider old new first head
  pub all : All (IsSpan new.heap.items) now
  pub counts : count (terms_of new.heap.items now) + count (from head at) ≡ count ts + count (from head next)
  pub same : (after : Trees ℕ) (ds : Domains ℕ) (s : ℕ → Tree ℕ) → AllWide ds → (Agrees (store_of new) ds s × (put_all s (join (terms_of new.heap.items now) after) ≡ put_all (counted first s) (from head next))) ↔ (Agrees (store_of old) ds s × (put_all s (join ts after) ≡ put_all (counted first s) (from head at)))

abbrev pub HasTurned : State → State → Trees ℕ → List Span → ℕ → List Cell → ℕ → Option ℕ → Type 0
HasTurned old new ts now first head at None = (after : Trees ℕ) (ds : Domains ℕ) (s : ℕ → Tree ℕ) → AllWide ds → Agrees (store_of old) ds s → put_all s (join ts after) ≡ put_all (counted first s) (from head at) → ⊥
HasTurned old new ts now first head at (Some next) = IsTurned old new ts now first head at next
