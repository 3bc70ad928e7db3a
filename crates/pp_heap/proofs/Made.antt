-- The substitution that the changes make: it makes each variable equal to what it is bound to, and is the most general one that does.
use Rattle.std.proofs.Common.{◌≡◌, ℕ, suc, ◌<◌, List, [], ◌∷◌, length, Bool, true, false, Option, None, refl, ap, sym, ◌∙◌, subst, inl, inr, cond, arith}
use Rattle.std.specs.Prelude.{nat_eq}
use Rattle.pp_algebra.specs.Terms.{Tree, variable, put, variables}
use Rattle.pp_algebra.specs.Covers.{IsIn}
use Rattle.pp_algebra.proofs.Put.{put-put, put-variable}
use Rattle.pp_algebra.proofs.Bools.{nat_same, nat_is}
use Rattle.pp_algebra.proofs.Antisym.{put-agree}
use Rattle.pp_heap.specs.declared.state.Slot.{Slot}
use Rattle.pp_heap.specs.declared.state.Slot.TheVariants as slots
use Rattle.pp_heap.specs.declared.state.Value.{Value}
use Rattle.pp_heap.specs.declared.state.Entry.{Entry}
use Rattle.pp_heap.specs.declared.state.Entry.TheVariants.{Grown, Held, Bound, Narrowed, Added, Defined}
use Rattle.pp_heap.specs.Values.{slot_at, slot_of, slot_term, value_term}
use Rattle.pp_heap.specs.Stores.{Store, before, made, single, step_by}
use Rattle.pp_heap.specs.Soundness.{IsLinked, IsSound, IsStep}
use Rattle.pp_heap.proofs.Slots.{never_free, one_value, slot_term-slot_of, Equates}
use Rattle.pp_heap.proofs.Changes.{same_or_not, below_or, at_same, at_other, at_take, bound_within, free_before, value_before, equates_before, past_take}

pub single_same : (x : ℕ) (t : Tree ℕ) → single x t x ≡ t
single_same x t = rw (nat_same x) refl

pub single_other : (x : ℕ) (t : Tree ℕ) (v : ℕ) → (v ≡ x → ⊥) → single x t v ≡ variable v
single_other x t v h = go (nat_eq v x) refl
  where
    go : (b : Bool) → nat_eq v x ≡ b → cond b t (variable v) ≡ variable v
    go true e = absurd (h (nat_is v x e))
    go false e = refl

-- a term without x stays
pub untouched : (x : ℕ) (t a : Tree ℕ) → (IsIn x (variables a) → ⊥) → put (single x t) a ≡ a
untouched x t a h = put-agree (single x t) variable a (λ w i. single_other x t w (λ e. h (subst (λ (z : ℕ). IsIn z (variables a)) e i))) ∙ put-variable a

pub put_through : (s r : ℕ → Tree ℕ) (t : Tree ℕ) → ((v : ℕ) → put s (r v) ≡ s v) → put s (put r t) ≡ put s t
put_through s r t h = put-put s r t ∙ put-agree (λ v. put s (r v)) s t (λ v i. h v)

single-agrees : (s : ℕ → Tree ℕ) (x : ℕ) (t : Tree ℕ) (v : ℕ) → s x ≡ put s t → put s (single x t v) ≡ s v
single-agrees s x t v h = go (nat_eq v x) refl
  where
    go : (b : Bool) → nat_eq v x ≡ b → put s (cond b t (variable v)) ≡ s v
    go true e = sym h ∙ ap s (sym (nat_is v x e))
    go false e = refl

-- where s makes x equal to t, it sees no difference
pub after_single : (s : ℕ → Tree ℕ) (x : ℕ) (t a : Tree ℕ) → s x ≡ put s t → put s (put (single x t) a) ≡ put s a
after_single s x t a h = put_through s (single x t) a (λ v. single-agrees s x t v h)

-- a free variable stays
pub made_free : (es : List Entry) (st : Store) (v : ℕ) (d : Option ℕ) → IsSound es st → slot_at st.slots v ≡ slots.Free d → made es st v ≡ variable v
made_free [] st v d k h = refl
made_free (Grown n ∷ es) st v d k h = let f = free_before (Grown n) st v d h in ap (put variable) (made_free es (before (Grown n) st) v f.0 k.2 f.1)
made_free (Held n ∷ es) st v d k h = let f = free_before (Held n) st v d h in ap (put variable) (made_free es (before (Held n) st) v f.0 k.2 f.1)
made_free (Bound x e ∷ es) st v d k h =
    let f = free_before (Bound x e) st v d h in
    ap (put (step_by (Bound x e) st (made es (before (Bound x e) st)))) (made_free es (before (Bound x e) st) v f.0 k.2 f.1)
    ∙ single_other x _ v (λ i. never_free k.0.0 d (sym k.0.1 ∙ ap (slot_at st.slots) (sym i) ∙ h))
made_free (Narrowed x e ∷ es) st v d k h = let f = free_before (Narrowed x e) st v d h in ap (put variable) (made_free es (before (Narrowed x e) st) v f.0 k.2 f.1)
made_free (Added n ∷ es) st v d k h = let f = free_before (Added n) st v d h in ap (put variable) (made_free es (before (Added n) st) v f.0 k.2 f.1)
made_free (Defined n ∷ es) st v d k h =
    let f = free_before (Defined n) st v d h in
    ap (put (step_by (Defined n) st (made es (before (Defined n) st)))) (made_free es (before (Defined n) st) v f.0 k.2 f.1)
    ∙ single_other n _ v (λ i. never_free k.0.0 d (sym k.0.1 ∙ ap (slot_at st.slots) (sym i) ∙ h))

-- what x is bound to, under the earlier substitution
bound_term : (m : ℕ → Tree ℕ) (st : Store) (x : ℕ) (c : Value) → slot_at st.slots x ≡ slot_of c → put m (slot_term st.heap (slot_at st.slots x) x) ≡ put m (value_term st.heap c)
bound_term m st x c e = ap (λ k. put m (slot_term st.heap k x)) e ∙ ap (put m) (slot_term-slot_of st.heap c x)

-- where s makes x equal to what it is bound to, it goes through the change too
bound_most : (m s : ℕ → Tree ℕ) (st : Store) (x : ℕ) (c : Value) → slot_at st.slots x ≡ slot_of c → Equates st s → ((v : ℕ) → put s (m v) ≡ s v) → (v : ℕ) → put s (put (single x (put m (slot_term st.heap (slot_at st.slots x) x))) (m v)) ≡ s v
bound_most m s st x c e q h v =
    let u = put m (slot_term st.heap (slot_at st.slots x) x) in
    let same : s x ≡ put s u = q x c e ∙ sym (put_through s m (value_term st.heap c) h) ∙ ap (put s) (sym (bound_term m st x c e)) in
    after_single s x u (m v) same ∙ h v

-- x goes to what it is bound to, and the earlier substitution left it as it is
bound_equates : (m : ℕ → Tree ℕ) (st : Store) (x : ℕ) (b : Value) → slot_at st.slots x ≡ slot_of b → (IsIn x (variables (put m (value_term st.heap b))) → ⊥) → m x ≡ variable x → ((v : ℕ) (c : Value) → (v ≡ x → ⊥) → slot_at st.slots v ≡ slot_of c → m v ≡ put m (value_term st.heap c)) → Equates st (λ v. put (single x (put m (slot_term st.heap (slot_at st.slots x) x))) (m v))
bound_equates m st x b k a free others v c h =
    let u = put m (slot_term st.heap (slot_at st.slots x) x) in
    let e : u ≡ put m (value_term st.heap b) = bound_term m st x b k in
    let through = put-put (single x u) m in
    elim (same_or_not v x) [
      | inl i ↦ (
          let same : c ≡ b = one_value c b (sym h ∙ ap (slot_at st.slots) i ∙ k) in
          ap (λ w. put (single x u) (m w)) i ∙ ap (put (single x u)) free ∙ single_same x u
          ∙ sym (untouched x u u (λ j. a (subst (λ (z : Tree ℕ). IsIn x (variables z)) e j)))
          ∙ ap (put (single x u)) e ∙ through (value_term st.heap b)
          ∙ ap (λ z. put (λ w. put (single x u) (m w)) (value_term st.heap z)) (sym same))
      | inr i ↦ ap (put (single x u)) (others v c i h) ∙ through (value_term st.heap c)
    ]

plain_most : (s m : ℕ → Tree ℕ) (v : ℕ) → put s (m v) ≡ s v → put s (put variable (m v)) ≡ s v
plain_most s m v h = ap (put s) (put-variable (m v)) ∙ h

-- whatever makes each variable equal to what it is bound to goes through it
pub made_most : (es : List Entry) (st : Store) (s : ℕ → Tree ℕ) → IsLinked st → IsSound es st → Equates st s → (v : ℕ) → put s (made es st v) ≡ s v
made_most [] st s l k q v = refl
made_most (Grown n ∷ es) st s l k q v = plain_most s (made es (before (Grown n) st)) v (made_most es (before (Grown n) st) s k.1 k.2 (equates_before (Grown n) st s l k.1 q) v)
made_most (Held n ∷ es) st s l k q v = plain_most s (made es (before (Held n) st)) v (made_most es (before (Held n) st) s k.1 k.2 (equates_before (Held n) st s l k.1 q) v)
made_most (Bound x d ∷ es) st s l k q v = bound_most (made es (before (Bound x d) st)) s st x k.0.0 k.0.1 q (made_most es (before (Bound x d) st) s k.1 k.2 (equates_before (Bound x d) st s l k.1 q)) v
made_most (Narrowed x d ∷ es) st s l k q v = plain_most s (made es (before (Narrowed x d) st)) v (made_most es (before (Narrowed x d) st) s k.1 k.2 (equates_before (Narrowed x d) st s l k.1 q) v)
made_most (Added n ∷ es) st s l k q v = plain_most s (made es (before (Added n) st)) v (made_most es (before (Added n) st) s k.1 k.2 (equates_before (Added n) st s l k.1 q) v)
made_most (Defined n ∷ es) st s l k q v = bound_most (made es (before (Defined n) st)) s st n k.0.0 k.0.1 q (made_most es (before (Defined n) st) s k.1 k.2 (equates_before (Defined n) st s l k.1 q)) v

-- the same of a change that binds nothing
plain_equates : (e : Entry) (st : Store) (m : ℕ → Tree ℕ) → IsLinked st → IsLinked (before e st) → ((v : ℕ) (c : Value) → slot_at st.slots v ≡ slot_of c → slot_at (before e st).slots v ≡ slot_of c) → Equates (before e st) m → Equates st (λ v. put variable (m v))
plain_equates e st m l k b q v c h =
    let g = b v c h in
    put-variable (m v) ∙ q v c g ∙ ap (put m) (value_before e st v c l k g) ∙ put-agree m (λ w. put variable (m w)) (value_term st.heap c) (λ w i. sym (put-variable (m w)))

narrowed_stays : (es : List Entry) (st : Store) (x : ℕ) (d : Option ℕ) → IsStep (Narrowed x d) es st → (v : ℕ) (c : Value) → slot_at st.slots v ≡ slot_of c → slot_at (before (Narrowed x d) st).slots v ≡ slot_of c
narrowed_stays es st x d k v c h = at_other st.slots x v (slots.Free d) (λ i. never_free c k.0 (sym h ∙ ap (slot_at st.slots) i ∙ k.1)) ∙ h

added_stays : (es : List Entry) (st : Store) (n : ℕ) → IsStep (Added n) es st → (v : ℕ) (c : Value) → slot_at st.slots v ≡ slot_of c → slot_at (before (Added n) st).slots v ≡ slot_of c
added_stays es st n k v c h = elim (below_or v n) [
  | inl l ↦ at_take st.slots n v l ∙ h
  | inr l ↦ (let f = k.1 v l in absurd (never_free c f.0 (sym h ∙ f.1)))
]

-- a bound variable other than the last one is before it
defined_below : (ss : List Slot) (n v : ℕ) (c : Value) → (v ≡ n → ⊥) → length ss ≡ suc n → slot_at ss v ≡ slot_of c → v < n
defined_below ss n v c d e h = elim (below_or v n) [ inl l ↦ l | inr l ↦ absurd (d (let m = bound_within ss v c h in omega (arith, l, m, e))) ]

-- it makes each variable equal to what it is bound to
pub made_equates : (es : List Entry) (st : Store) → IsLinked st → IsSound es st → Equates st (made es st)
made_equates [] st l k v c h = absurd (never_free c None (sym h ∙ ap (λ ss. slot_at ss v) k))
made_equates (Grown n ∷ es) st l k v c h = plain_equates (Grown n) st (made es (before (Grown n) st)) l k.1 (λ v c g. g) (made_equates es (before (Grown n) st) k.1 k.2) v c h
made_equates (Held n ∷ es) st l k v c h = plain_equates (Held n) st (made es (before (Held n) st)) l k.1 (λ v c g. g) (made_equates es (before (Held n) st) k.1 k.2) v c h
made_equates (Bound x d ∷ es) st l k v c h =
    let b = before (Bound x d) st in
    bound_equates (made es b) st x k.0.0 k.0.1 k.0.2
    (made_free es b x d k.2 (at_same st.slots x (slots.Free d) (bound_within st.slots x k.0.0 k.0.1)))
    (λ w e i g. made_equates es b k.1 k.2 w e (at_other st.slots x w (slots.Free d) i ∙ g))
    v c h
made_equates (Narrowed x d ∷ es) st l k v c h = plain_equates (Narrowed x d) st (made es (before (Narrowed x d) st)) l k.1 (narrowed_stays es st x d k.0) (made_equates es (before (Narrowed x d) st) k.1 k.2) v c h
made_equates (Added n ∷ es) st l k v c h = plain_equates (Added n) st (made es (before (Added n) st)) l k.1 (added_stays es st n k.0) (made_equates es (before (Added n) st) k.1 k.2) v c h
made_equates (Defined n ∷ es) st l k v c h =
    let b = before (Defined n) st in
    bound_equates (made es b) st n k.0.0 k.0.1 k.0.2
    (made_free es b n None k.2 (past_take st.slots n n (omega arith)))
    (λ w e i g. made_equates es b k.1 k.2 w e (at_take st.slots n w (defined_below st.slots n w e i k.0.3 g) ∙ g))
    v c h
