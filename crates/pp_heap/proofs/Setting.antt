-- One slot is set.
use Rattle.std.proofs.Common.{◌≡◌, ℕ, zero, suc, ◌<◌, List, [], ◌∷◌, length, set, Option, None, refl, ap, sym, ◌∙◌, subst, inl, inr, arith, length-set}
use Rattle.std.proofs.lemmas.List.{set-set, set-get_or}
use Rattle.pp_algebra.specs.Terms.{Tree}
use Rattle.pp_algebra.specs.Rows.{Domains}
use Rattle.pp_heap.specs.declared.state.Slot.{Slot}
use Rattle.pp_heap.specs.declared.state.Slot.TheVariants as slots
use Rattle.pp_heap.specs.declared.state.Value.{Value}
use Rattle.pp_heap.specs.declared.state.Value.TheVariants.{Variable, Int, Atom, Compound}
use Rattle.pp_heap.specs.Values.{slot_at, slot_of}
use Rattle.pp_heap.specs.Stores.{Store}
use Rattle.pp_heap.specs.Agreement.{Says, Agrees}
use Rattle.pp_heap.specs.Soundness.{IsLinked, IsTarget, IsPlace}
use Rattle.pp_heap.specs.Outcomes.{is_free, frees}
use Rattle.pp_heap.proofs.Slots.{never_free, one_value}
use Rattle.pp_heap.proofs.Changes.{same_or_not, at_same, at_other}

abbrev pub slot_set : Store → ℕ → Slot → Store
slot_set st x k = record st { slots = set st.slots x k }

-- setting the slot back
pub set_before : (st : Store) (x : ℕ) (d : Option ℕ) (k : Slot) → slot_at st.slots x ≡ slots.Free d → slot_set (slot_set st x k) x (slots.Free d) ≡ st
set_before st x d k f =
    ap (λ ss. let r : Store = record { heap = st.heap; domains = st.domains; slots = ss } in r)
    (set-set st.slots x k (slots.Free d) ∙ ap (set st.slots x) (sym f) ∙ set-get_or st.slots x (slots.Free None))

-- a slot that is set says what it is set to; the others are as they were
pub agrees_set : (st : Store) (ds : Domains ℕ) (s : ℕ → Tree ℕ) (x : ℕ) (k : Slot) → x < length st.slots → Agrees (slot_set st x k) ds s → Says st ds s x (slot_at st.slots x) → Agrees st ds s
agrees_set st ds s x k l a h v = elim (same_or_not v x) [
  | inl i ↦ subst (λ z. Says st ds s z (slot_at st.slots z)) (sym i) h
  | inr i ↦ subst (Says st ds s v) (at_other st.slots x v k i) (a v)
]

pub set_says : (st : Store) (ds : Domains ℕ) (s : ℕ → Tree ℕ) (x : ℕ) (k : Slot) → x < length st.slots → Agrees (slot_set st x k) ds s → Says st ds s x k
set_says st ds s x k l a = subst (Says st ds s x) (at_same st.slots x k l) (a x)

pub set_agrees : (st : Store) (ds : Domains ℕ) (s : ℕ → Tree ℕ) (x : ℕ) (k : Slot) → x < length st.slots → Agrees st ds s → Says st ds s x k → Agrees (slot_set st x k) ds s
set_agrees st ds s x k l a h v = elim (same_or_not v x) [
  | inl i ↦ subst (λ z. Says st ds s z (slot_at (set st.slots x k) z)) (sym i) (subst (Says st ds s x) (sym (at_same st.slots x k l)) h)
  | inr i ↦ subst (Says st ds s v) (sym (at_other st.slots x v k i)) (a v)
]

-- a slot may be set to what x may be bound to
pub linked_bound : (st : Store) (x : ℕ) (c : Value) → IsLinked st → x < length st.slots → IsTarget st.heap x c → IsLinked (slot_set st x (slot_of c))
linked_bound st x c k l t = record {
  forest = k.forest;
  variables = λ p v e. let h = k.variables p v e in omega (arith, length-set {A = Slot});
  bound = λ v b e. elim (same_or_not v x) [
    | inl i ↦ (
        let g : c ≡ b = one_value c b (sym (at_same st.slots x (slot_of c) l) ∙ ap (slot_at (set st.slots x (slot_of c))) (sym i) ∙ e) in
        subst (λ z. IsTarget st.heap v z) g (subst (λ z. IsTarget st.heap z c) (sym i) t))
    | inr i ↦ k.bound v b (sym (at_other st.slots x v (slot_of c) i) ∙ e)
  ];
  free = λ v d e. elim (same_or_not v x) [
    | inl i ↦ absurd (never_free c d (sym (at_same st.slots x (slot_of c) l) ∙ ap (slot_at (set st.slots x (slot_of c))) (sym i) ∙ e))
    | inr i ↦ k.free v d (sym (at_other st.slots x v (slot_of c) i) ∙ e)
  ];
  wide = k.wide;
}

-- or to another domain
pub linked_given : (st : Store) (x : ℕ) (g : Option ℕ) → IsLinked st → x < length st.slots → IsPlace st.domains g → IsLinked (slot_set st x (slots.Free g))
linked_given st x g k l t = record {
  forest = k.forest;
  variables = λ p v e. let h = k.variables p v e in omega (arith, length-set {A = Slot});
  bound = λ v b e. elim (same_or_not v x) [
    | inl i ↦ absurd (never_free b g (sym e ∙ ap (slot_at (set st.slots x (slots.Free g))) i ∙ at_same st.slots x (slots.Free g) l))
    | inr i ↦ k.bound v b (sym (at_other st.slots x v (slots.Free g) i) ∙ e)
  ];
  free = λ v d e. elim (same_or_not v x) [
    | inl i ↦ (
        let h : g ≡ d = one_place g d (sym (at_same st.slots x (slots.Free g) l) ∙ ap (slot_at (set st.slots x (slots.Free g))) (sym i) ∙ e) in
        subst (IsPlace st.domains) h t)
    | inr i ↦ k.free v d (sym (at_other st.slots x v (slots.Free g) i) ∙ e)
  ];
  wide = k.wide;
}
  where
    one_place : (g d : Option ℕ) → slots.Free g ≡ slots.Free d → g ≡ d
    one_place g d e = cc

bound_none : (c : Value) → is_free (slot_of c) ≡ 0
bound_none (Variable w) = refl
bound_none (Int n) = refl
bound_none (Atom a) = refl
bound_none (Compound p) = refl

pub frees_bound : (ss : List Slot) (x : ℕ) (d : Option ℕ) (c : Value) → x < length ss → slot_at ss x ≡ slots.Free d → frees ss ≡ suc (frees (set ss x (slot_of c)))
frees_bound [] x d c l f = absurd (omega arith)
frees_bound (k ∷ ks) zero d c l f = rw (f, bound_none c) (omega arith)
frees_bound (k ∷ ks) (suc x) d c l f = let h = frees_bound ks x d c (omega arith) f in omega arith

pub frees_given : (ss : List Slot) (x : ℕ) (d g : Option ℕ) → x < length ss → slot_at ss x ≡ slots.Free d → frees (set ss x (slots.Free g)) ≡ frees ss
frees_given [] x d g l f = absurd (omega arith)
frees_given (k ∷ ks) zero d g l f = rw f refl
frees_given (k ∷ ks) (suc x) d g l f = let h = frees_given ks x d g (omega arith) f in omega arith
