-- What becomes of an equation or a membership.
use Rattle.std.specs.Prelude.{◌≡◌, ℕ, ℤ, ◌+◌, ◌*◌, ◌<◌, ◌≤◌, ◌⊎◌, ◌↔◌, Bool, true, false, List, [], ◌∷◌, ◌++◌, length, Option, Some, None}
use Rattle.std.specs.FinSet as set
use Rattle.pp_row.specs.declared.cell.Cell.{Cell}
use Rattle.pp_row.specs.Reading.{IsForest}
use Rattle.pp_algebra.specs.Terms.{Tree, int, Trees, variable, put, variables, size}
use Rattle.pp_algebra.specs.Rows.{Domain, Domains}
use Rattle.pp_algebra.specs.Covers.{MayGo, IsIn}
use Rattle.pp_algebra.specs.Members.{IsInteger}
use Rattle.pp_domain.specs.Sets.{set_of}
use Rattle.pp_algebra.specs.Solve.{Item, equation}
use Rattle.pp_heap.specs.declared.state.Slot.{Slot}
use Rattle.pp_heap.specs.declared.state.Slot.TheVariants as slots
use Rattle.pp_heap.specs.declared.state.Value.{Value}
use Rattle.pp_heap.specs.declared.state.Value.TheVariants.{Variable, Int, Atom, Compound}
use Rattle.pp_heap.specs.declared.state.Entry.{Entry}
use Rattle.pp_heap.specs.declared.state.State.{State}
use Rattle.pp_heap.specs.declared.bind.Meeting.{Meeting}
use Rattle.pp_heap.specs.declared.bind.Meeting.TheVariants.{Empty, One, Many}
use Rattle.pp_heap.specs.Values.{slot_at, slot_of, value_term, domain_by}
use Rattle.pp_heap.specs.Stores.{Store, store_of, entries_of, solution}
use Rattle.pp_heap.specs.Agreement.{Agrees, AllWide, Follows, Excludes}
use Rattle.pp_heap.specs.Soundness.{IsFixed, IsPlace, IsGood, IsKept}
use Rattle.pp_heap.specs.Spans.{sizes}

pub record IsFree (st : Store) (x : ℕ) (d : Option ℕ) : Type 0 where
  pub within : x < length st.slots
  pub free : slot_at st.slots x ≡ slots.Free d

abbrev pub IsUnbound : Store → ℕ → Type 0
IsUnbound st x = (d : Option ℕ) × IsFree st x d

-- a free variable, or an integer, an atom or a compound of the heap
abbrev pub IsNow : Store → Value → Type 0
IsNow st (Variable x) = IsUnbound st x
IsNow st (Int n) = IsFixed st.heap (Int n)
IsNow st (Atom a) = IsFixed st.heap (Atom a)
IsNow st (Compound p) = IsFixed st.heap (Compound p)

-- the term is this value at the moment
pub record IsValue (st : Store) (t : Tree ℕ) (c : Value) : Type 0 where
  pub now : IsNow st c
  pub same : (ds : Domains ℕ) (s : ℕ → Tree ℕ) → Agrees st ds s → put s t ≡ put s (value_term st.heap c)

-- a variable that is bound to what the term is now has this slot
abbrev pub IsSlotFor : Store → Tree ℕ → Slot → Type 0
IsSlotFor st t k = (c : Value) × (k ≡ slot_of c) × IsValue st t c

-- one change more
pub record IsChange (old new : State) (e : Entry) (st : Store) : Type 0 where
  pub store : store_of new ≡ st
  pub entries : entries_of new ≡ e ∷ entries_of old

pub record IsSame (old new : State) : Type 0 where
  pub store : store_of new ≡ store_of old
  pub entries : entries_of new ≡ entries_of old

-- more domains, after those that there were
abbrev pub IsMore : List (List (ℤ × ℤ)) → List (List (ℤ × ℤ)) → Type 0
IsMore old new = (more : List (List (ℤ × ℤ))) × (new ≡ old ++ more)

-- sound after the same changes and maybe more, over the same terms and as many variables
pub record IsLater (old new : State) : Type 0 where
  pub good : IsGood new
  pub kept : IsKept old new
  pub heap : new.heap.items ≡ old.heap.items
  pub variables : length new.slots.items ≡ length old.slots.items

-- nothing was added but domains
pub record IsCalm (old new : State) : Type 0 where
  pub good : IsGood new
  pub kept : IsKept old new
  pub heap : new.heap.items ≡ old.heap.items
  pub slots : new.slots.items ≡ old.slots.items
  pub domains : IsMore old.domains.items new.domains.items
  pub same : (v : ℕ) → solution new v ≡ solution old v

abbrev pub is_free : Slot → ℕ
is_free (slots.Free d) = 1
is_free (slots.Alias w) = 0
is_free (slots.Int n) = 0
is_free (slots.Atom a) = 0
is_free (slots.Compound p) = 0

-- how many variables are free
abbrev pub frees : List Slot → ℕ
frees [] = 0
frees (s ∷ ss) = is_free s + frees ss

-- no variable was bound
pub record IsSteady (old new : State) : Type 0 where
  pub frees : frees new.slots.items ≡ frees old.slots.items
  pub same : (v : ℕ) → solution new v ≡ solution old v

-- more terms, after those that there were
abbrev pub AreMore : List Cell → List Cell → Type 0
AreMore old new = (more : List Cell) × IsForest more × (new ≡ old ++ more)

-- nothing was added but terms of the heap
pub record IsGrown (old new : State) : Type 0 where
  pub good : IsGood new
  pub kept : IsKept old new
  pub heap : AreMore old.heap.items new.heap.items
  pub slots : new.slots.items ≡ old.slots.items
  pub domains : new.domains.items ≡ old.domains.items
  pub same : (v : ℕ) → solution new v ≡ solution old v

-- sound after the same changes and maybe more, over as many variables
pub record IsFurther (old new : State) : Type 0 where
  pub good : IsGood new
  pub kept : IsKept old new
  pub variables : length new.slots.items ≡ length old.slots.items

-- a variable was bound, and no term grew by more than the size of both of these
pub record Shrinks (old new : State) (t u : Tree ℕ) : Type 0 where
  pub frees : frees new.slots.items < frees old.slots.items
  pub sizes : (ts : Trees ℕ) → sizes (solution new) ts ≤ sizes (solution old) ts * (size (put (solution old) t) + size (put (solution old) u))

-- the state under one more equation
pub record Solves (old new : State) (t u : Tree ℕ) : Type 0 where
  pub follows : Follows old new (equation t u)
  pub falls : IsSteady old new ⊎ Shrinks old new t u

abbrev pub IsAnswer : State → State → Tree ℕ → Tree ℕ → Bool → Type 0
IsAnswer old new t u true = Solves old new t u
IsAnswer old new t u false = Excludes old (equation t u)

abbrev pub IsVerdict : State → State → Item ℕ → Bool → Type 0
IsVerdict old new item true = Follows old new item
IsVerdict old new item false = Excludes old item

-- v is the one member
pub record HasOnly (d : Domain) (v : ℤ) : Type 0 where
  pub integer : IsInteger v
  pub member : set.contains d v ≡ true
  pub only : (n : ℤ) → set.contains d n ≡ true → n ≡ v

-- x may be bound to this value, or nothing that agrees with the state makes them equal
abbrev pub IsAllowed : State → ℕ → Option ℕ → Value → Bool → Type 0
IsAllowed t x d c true = ((ds : Domains ℕ) (s : ℕ → Tree ℕ) → s x ≡ put s (value_term t.heap.items c) → MayGo ds (domain_by t.domains.items d) (s x)) × (IsIn x (variables (put (solution t) (value_term t.heap.items c))) → ⊥)
IsAllowed t x d c false = Excludes t (equation (variable x) (value_term t.heap.items c))

-- the terms that may go into both domains: none, one integer, or those of the domain at this place
abbrev pub IsMeeting : List (List (ℤ × ℤ)) → Option Domain → Option Domain → Meeting → Type 0
IsMeeting places d e Empty = (ds : Domains ℕ) (t : Tree ℕ) → AllWide ds → MayGo ds d t → MayGo ds e t → ⊥
IsMeeting places d e (One n) = IsInteger n × ((ds : Domains ℕ) (t : Tree ℕ) → AllWide ds → (t ≡ int n) ↔ (MayGo ds d t × MayGo ds e t))
IsMeeting places d e (Many k) = IsPlace places k × ((ds : Domains ℕ) (t : Tree ℕ) → AllWide ds → MayGo ds (domain_by places k) t ↔ (MayGo ds d t × MayGo ds e t))

-- the same of a domain that may be empty
abbrev pub IsSettled : List (List (ℤ × ℤ)) → Option (List (ℤ × ℤ)) → Meeting → Type 0
IsSettled places None m = m ≡ Empty
IsSettled places (Some ps) m = IsMeeting places None (Some (set_of ps)) m

-- one variable more, of this domain
pub record IsAdded (old new : State) (d : Option Domain) : Type 0 where
  pub place : Option ℕ
  pub slots : new.slots.items ≡ old.slots.items ++ slots.Free place ∷ []
  pub domain : domain_by new.domains.items place ≡ d
  pub domains : IsMore old.domains.items new.domains.items
  pub heap : new.heap.items ≡ old.heap.items
  pub same : (v : ℕ) → solution new v ≡ solution old v

-- one variable more, which is bound to this value
pub record IsAddedAs (old new : State) (c : Value) : Type 0 where
  pub slots : new.slots.items ≡ old.slots.items ++ slot_of c ∷ []
  pub domains : IsMore old.domains.items new.domains.items
  pub same : (v : ℕ) → v < length old.slots.items → solution new v ≡ solution old v
  pub last : solution new (length old.slots.items) ≡ put (solution old) (value_term old.heap.items c)

-- whether the integer is in the domain
abbrev pub IsHeld : Option Domain → ℤ → Bool → Type 0
IsHeld None n b = b ≡ true
IsHeld (Some d) n b = b ≡ set.contains d n
