-- What undoing a change leaves.
use Rattle.std.proofs.Common.{◌≡◌, ℕ, zero, suc, ◌<◌, ◌≤◌, List, length, take, drop, set, Bool, true, false, Option, None, refl, ap, sym, ◌∙◌, ◌⊎◌, inl, inr, arith, get_or-set_same, get_or-set_other, length-set, take-append-drop}
use Rattle.std.specs.Prelude.{nat_eq}
use Rattle.std.proofs.lemmas.List.{get_or-take, get_or_past, length-take}
use Rattle.pp_row.specs.declared.cell.Cell.{Cell}
use Rattle.pp_row.specs.Reading.{IsForest}
use Rattle.pp_row.proofs.Next.{forest_from}
use Rattle.pp_algebra.specs.Terms.{Tree, put}
use Rattle.pp_algebra.proofs.Bools.{nat_same, nat_is}
use Rattle.pp_heap.specs.declared.state.Slot.{Slot}
use Rattle.pp_heap.specs.declared.state.Slot.TheVariants as slots
use Rattle.pp_heap.specs.declared.state.Value.{Value}
use Rattle.pp_heap.specs.declared.state.Value.TheVariants.{Variable, Int, Atom, Compound}
use Rattle.pp_heap.specs.declared.state.Entry.{Entry}
use Rattle.pp_heap.specs.declared.state.Entry.TheVariants.{Grown, Held, Bound, Narrowed, Added, Defined}
use Rattle.pp_heap.specs.Values.{slot_at, slot_of, term_at, value_term}
use Rattle.pp_heap.specs.Stores.{Store, before}
use Rattle.pp_heap.specs.Soundness.{IsLinked}
use Rattle.pp_heap.proofs.Slots.{never_free, Equates}
use Rattle.pp_heap.proofs.Forests.{more_term}

pub same_or_not : (v x : ℕ) → (v ≡ x) ⊎ (v ≡ x → ⊥)
same_or_not v x = go (nat_eq v x) refl
  where
    go : (b : Bool) → nat_eq v x ≡ b → (v ≡ x) ⊎ (v ≡ x → ⊥)
    go true e = inl (nat_is v x e)
    go false e = inr (λ h. let g : nat_eq v x ≡ true = ap (nat_eq v) (sym h) ∙ nat_same v in absurd (cc))

pub below_or : (a b : ℕ) → (a < b) ⊎ (b ≤ a)
below_or zero zero = inr (omega arith)
below_or zero (suc b) = inl (omega arith)
below_or (suc a) zero = inr (omega arith)
below_or (suc a) (suc b) = elim (below_or a b) [ inl h ↦ inl (omega arith) | inr h ↦ inr (omega arith) ]

pub at_same : (ss : List Slot) (x : ℕ) (k : Slot) → x < length ss → slot_at (set ss x k) x ≡ k
at_same ss x k h = get_or-set_same ss x k (slots.Free None) h

pub at_other : (ss : List Slot) (x v : ℕ) (k : Slot) → (v ≡ x → ⊥) → slot_at (set ss x k) v ≡ slot_at ss v
at_other ss x v k h = get_or-set_other ss x v k (slots.Free None) h

pub at_past : (ss : List Slot) (v : ℕ) → length ss ≤ v → slot_at ss v ≡ slots.Free None
at_past ss v h = get_or_past ss v (slots.Free None) h

-- a bound variable has a slot
pub bound_within : (ss : List Slot) (v : ℕ) (c : Value) → slot_at ss v ≡ slot_of c → v < length ss
bound_within ss v c h = elim (below_or v (length ss)) [ inl l ↦ l | inr l ↦ absurd (never_free c None (sym h ∙ at_past ss v l)) ]

-- the slot of a variable that is made free
pub freed : (ss : List Slot) (x : ℕ) (d : Option ℕ) → (e : Option ℕ) × (slot_at (set ss x (slots.Free d)) x ≡ slots.Free e)
freed ss x d = elim (below_or x (length ss)) [
  | inl l ↦ (d, at_same ss x (slots.Free d) l)
  | inr l ↦ (None, at_past (set ss x (slots.Free d)) x (omega (arith, length-set {A = Slot})))
]

set_bound : (ss : List Slot) (x v : ℕ) (d : Option ℕ) (c : Value) → slot_at (set ss x (slots.Free d)) v ≡ slot_of c → slot_at ss v ≡ slot_of c
set_bound ss x v d c h = elim (same_or_not v x) [
  | inl i ↦ (let f = freed ss x d in absurd (never_free c f.0 (sym h ∙ ap (slot_at (set ss x (slots.Free d))) i ∙ f.1)))
  | inr i ↦ sym (at_other ss x v (slots.Free d) i) ∙ h
]

set_free : (ss : List Slot) (x v : ℕ) (d e : Option ℕ) → slot_at ss v ≡ slots.Free e → (g : Option ℕ) × (slot_at (set ss x (slots.Free d)) v ≡ slots.Free g)
set_free ss x v d e h = elim (same_or_not v x) [
  | inl i ↦ (let f = freed ss x d in (f.0, ap (slot_at (set ss x (slots.Free d))) i ∙ f.1))
  | inr i ↦ (e, at_other ss x v (slots.Free d) i ∙ h)
]

pub at_take : (ss : List Slot) (n v : ℕ) → v < n → slot_at (take n ss) v ≡ slot_at ss v
at_take ss n v l = get_or-take n ss v (slots.Free None) l

pub past_take : (ss : List Slot) (n v : ℕ) → n ≤ v → slot_at (take n ss) v ≡ slots.Free None
past_take ss n v l = at_past (take n ss) v (omega (arith, length-take n ss))

take_bound : (ss : List Slot) (n v : ℕ) (c : Value) → slot_at (take n ss) v ≡ slot_of c → slot_at ss v ≡ slot_of c
take_bound ss n v c h = elim (below_or v n) [
  | inl l ↦ sym (at_take ss n v l) ∙ h
  | inr l ↦ absurd (never_free c None (sym h ∙ past_take ss n v l))
]

take_free : (ss : List Slot) (n v : ℕ) (e : Option ℕ) → slot_at ss v ≡ slots.Free e → (g : Option ℕ) × (slot_at (take n ss) v ≡ slots.Free g)
take_free ss n v e h = elim (below_or v n) [
  | inl l ↦ (e, at_take ss n v l ∙ h)
  | inr l ↦ (None, past_take ss n v l)
]

-- what a variable is bound to before a change, it is bound to after it
pub bound_before : (e : Entry) (st : Store) (v : ℕ) (c : Value) → slot_at (before e st).slots v ≡ slot_of c → slot_at st.slots v ≡ slot_of c
bound_before (Grown n) st v c h = h
bound_before (Held n) st v c h = h
bound_before (Bound x d) st v c h = set_bound st.slots x v d c h
bound_before (Narrowed x d) st v c h = set_bound st.slots x v d c h
bound_before (Added n) st v c h = take_bound st.slots n v c h
bound_before (Defined n) st v c h = take_bound st.slots n v c h

-- what is free after a change is free before it
pub free_before : (e : Entry) (st : Store) (v : ℕ) (d : Option ℕ) → slot_at st.slots v ≡ slots.Free d → (g : Option ℕ) × (slot_at (before e st).slots v ≡ slots.Free g)
free_before (Grown n) st v d h = (d, h)
free_before (Held n) st v d h = (d, h)
free_before (Bound x k) st v d h = set_free st.slots x v k d h
free_before (Narrowed x k) st v d h = set_free st.slots x v k d h
free_before (Added n) st v d h = take_free st.slots n v d h
free_before (Defined n) st v d h = take_free st.slots n v d h

shorter_term : (heap : List Cell) (n p : ℕ) → IsForest heap → IsForest (take n heap) → p < length (take n heap) → term_at (take n heap) p ≡ term_at heap p
shorter_term heap n p f g l =
    sym (more_term (take n heap) (drop n heap) p g (forest_from heap n f) l) ∙ ap (λ (h : List Cell). term_at h p) (take-append-drop n heap)

-- a value before the change is the same term after it
pub value_before : (e : Entry) (st : Store) (v : ℕ) (c : Value) → IsLinked st → IsLinked (before e st) → slot_at (before e st).slots v ≡ slot_of c → value_term (before e st).heap c ≡ value_term st.heap c
value_before (Grown n) st v (Variable w) k l h = refl
value_before (Grown n) st v (Int i) k l h = refl
value_before (Grown n) st v (Atom a) k l h = refl
value_before (Grown n) st v (Compound p) k l h = shorter_term st.heap n p k.forest l.forest (l.bound v (Compound p) h).0
value_before (Held n) st v c k l h = refl
value_before (Bound x d) st v c k l h = refl
value_before (Narrowed x d) st v c k l h = refl
value_before (Added n) st v c k l h = refl
value_before (Defined n) st v c k l h = refl

pub equates_before : (e : Entry) (st : Store) (s : ℕ → Tree ℕ) → IsLinked st → IsLinked (before e st) → Equates st s → Equates (before e st) s
equates_before e st s k l q v c h = q v c (bound_before e st v c h) ∙ ap (put s) (sym (value_before e st v c k l h))
