-- A slot is free or bound, and what it says of its variable.
use Rattle.std.proofs.Common.{◌≡◌, ℕ, ℤ, ◌<◌, List, length, Option, None, refl, ap, sym, ◌∙◌, subst, slice_index_or}
use Rattle.std.proofs.lemmas.List.{get_or_read_under}
use Rattle.pp_row.specs.declared.cell.Cell.{Cell}
use Rattle.pp_algebra.specs.Terms.{Tree, put}
use Rattle.pp_algebra.specs.Rows.{Domains}
use Rattle.pp_algebra.specs.Covers.{MayGo}
use Rattle.pp_heap.specs.declared.state.Slot.{Slot}
use Rattle.pp_heap.specs.declared.state.Slot.TheVariants as slots
use Rattle.pp_heap.specs.declared.state.Value.{Value}
use Rattle.pp_heap.specs.declared.state.Value.TheVariants.{Variable, Int, Atom, Compound}
use Rattle.pp_heap.specs.Values.{slot_at, slot_of, slot_term, value_term, domain_by}
use Rattle.pp_heap.specs.Stores.{Store}
use Rattle.pp_heap.specs.Agreement.{Says, Agrees}
use Rattle.pp_heap.specs.Soundness.{IsLinked}
use Rattle.pp_heap.specs.Outcomes.{IsNow}

pub data Kind (k : Slot) : Type 0 where
  is_free : (d : Option ℕ) → k ≡ slots.Free d → Kind k
  is_bound : (c : Value) → k ≡ slot_of c → Kind k

pub kind : (k : Slot) → Kind k
kind (slots.Free d) = is_free d refl
kind (slots.Alias w) = is_bound (Variable w) refl
kind (slots.Int n) = is_bound (Int n) refl
kind (slots.Atom a) = is_bound (Atom a) refl
kind (slots.Compound p) = is_bound (Compound p) refl

pub never_free : (c : Value) (d : Option ℕ) → slot_of c ≡ slots.Free d → ⊥
never_free (Variable w) d e = absurd (cc)
never_free (Int n) d e = absurd (cc)
never_free (Atom a) d e = absurd (cc)
never_free (Compound p) d e = absurd (cc)

-- the value of a bound slot
value_by : Slot → Value
value_by (slots.Free d) = Atom 0
value_by (slots.Alias w) = Variable w
value_by (slots.Int n) = Int n
value_by (slots.Atom a) = Atom a
value_by (slots.Compound p) = Compound p

value_by-slot_of : (c : Value) → value_by (slot_of c) ≡ c
unfolding value_by
value_by-slot_of (Variable w) = refl
value_by-slot_of (Int n) = refl
value_by-slot_of (Atom a) = refl
value_by-slot_of (Compound p) = refl

pub one_value : (c k : Value) → slot_of c ≡ slot_of k → c ≡ k
one_value c k e = sym (value_by-slot_of c) ∙ ap value_by e ∙ value_by-slot_of k

pub slot_term-slot_of : (heap : List Cell) (c : Value) (v : ℕ) → slot_term heap (slot_of c) v ≡ value_term heap c
slot_term-slot_of heap (Variable w) v = refl
slot_term-slot_of heap (Int n) v = refl
slot_term-slot_of heap (Atom a) v = refl
slot_term-slot_of heap (Compound p) v = refl

pub says_bound : (st : Store) (ds : Domains ℕ) (s : ℕ → Tree ℕ) (v : ℕ) (c : Value) → Says st ds s v (slot_of c) → s v ≡ put s (value_term st.heap c)
says_bound st ds s v (Variable w) h = h
says_bound st ds s v (Int n) h = h
says_bound st ds s v (Atom a) h = h
says_bound st ds s v (Compound p) h = h

pub bound_says : (st : Store) (ds : Domains ℕ) (s : ℕ → Tree ℕ) (v : ℕ) (c : Value) → s v ≡ put s (value_term st.heap c) → Says st ds s v (slot_of c)
bound_says st ds s v (Variable w) h = h
bound_says st ds s v (Int n) h = h
bound_says st ds s v (Atom a) h = h
bound_says st ds s v (Compound p) h = h

-- what agrees, at a bound variable and at a free one
pub agrees_bound : (st : Store) (ds : Domains ℕ) (s : ℕ → Tree ℕ) (v : ℕ) (c : Value) → Agrees st ds s → slot_at st.slots v ≡ slot_of c → s v ≡ put s (value_term st.heap c)
agrees_bound st ds s v c a e = says_bound st ds s v c (subst (Says st ds s v) e (a v))

pub agrees_free : (st : Store) (ds : Domains ℕ) (s : ℕ → Tree ℕ) (v : ℕ) (d : Option ℕ) → Agrees st ds s → slot_at st.slots v ≡ slots.Free d → MayGo ds (domain_by st.domains d) (s v)
agrees_free st ds s v d a e = subst (Says st ds s v) e (a v)

-- s makes each variable equal to what it is bound to
abbrev pub Equates : Store → (ℕ → Tree ℕ) → Type 0
Equates st s = (v : ℕ) (c : Value) → slot_at st.slots v ≡ slot_of c → s v ≡ put s (value_term st.heap c)

-- s takes each free variable where its domain lets it
abbrev pub Fits : Store → Domains ℕ → (ℕ → Tree ℕ) → Type 0
Fits st ds s = (v : ℕ) (d : Option ℕ) → slot_at st.slots v ≡ slots.Free d → MayGo ds (domain_by st.domains d) (s v)

pub agrees_from : (st : Store) (ds : Domains ℕ) (s : ℕ → Tree ℕ) → Equates st s → Fits st ds s → Agrees st ds s
agrees_from st ds s e f v = go (kind (slot_at st.slots v))
  where
    go : Kind (slot_at st.slots v) → Says st ds s v (slot_at st.slots v)
    go (is_free d q) = subst (Says st ds s v) (sym q) (f v d q)
    go (is_bound c q) = subst (Says st ds s v) (sym q) (bound_says st ds s v c (e v c q))

-- what a read of the slots gives
pub slot_read : (ss : List Slot) (v : ℕ) (k : Slot) → k ≡ slice_index_or ss v k → v < length ss → slot_at ss v ≡ k
slot_read ss v k e l = sym (get_or_read_under ss v (length ss) k (slots.Free None) e l refl)

-- what is neither bound to a variable nor to anything else is free
pub only_free : (k : Slot) → ((w : ℕ) → k ≡ slots.Alias w → ⊥) → ((n : ℤ) → k ≡ slots.Int n → ⊥) → ((a : ℕ) → k ≡ slots.Atom a → ⊥) → ((p : ℕ) → k ≡ slots.Compound p → ⊥) → (d : Option ℕ) × (k ≡ slots.Free d)
only_free (slots.Free d) h i j l = (d, refl)
only_free (slots.Alias w) h i j l = absurd (h w refl)
only_free (slots.Int n) h i j l = absurd (i n refl)
only_free (slots.Atom a) h i j l = absurd (j a refl)
only_free (slots.Compound p) h i j l = absurd (l p refl)

-- what is neither free nor bound to a variable is bound to what is no variable
pub fixed_slot : (st : Store) (x : ℕ) (k : Slot) → IsLinked st → slot_at st.slots x ≡ k → ((w : ℕ) → k ≡ slots.Alias w → ⊥) → ((d : Option ℕ) → k ≡ slots.Free d → ⊥) → (c : Value) × (k ≡ slot_of c) × IsNow st c
fixed_slot st x (slots.Free d) l e h i = absurd (i d refl)
fixed_slot st x (slots.Alias w) l e h i = absurd (h w refl)
fixed_slot st x (slots.Int n) l e h i = (Int n, refl, l.bound x (Int n) e)
fixed_slot st x (slots.Atom a) l e h i = (Atom a, refl, l.bound x (Atom a) e)
fixed_slot st x (slots.Compound p) l e h i = (Compound p, refl, l.bound x (Compound p) e)
