-- The variables of what a variable is: each has a slot.
use Rattle.std.proofs.Common.{◌≡◌, ℕ, ◌<◌, List, [], ◌∷◌, length, None, refl, ap, sym, subst, inl, inr, arith}
use Rattle.std.proofs.lemmas.List.{length-take-le, length-set}
use Rattle.pp_algebra.specs.Terms.{Tree, int, node, variable, Trees, none, more, put, put_all, variables, variables_all}
use Rattle.pp_algebra.specs.Covers.{IsIn}
use Rattle.pp_algebra.proofs.Antisym.{IsIn-either}
use Rattle.pp_algebra.proofs.Order.{IsIn-left, IsIn-right}
use Rattle.pp_heap.specs.declared.state.Slot.{Slot}
use Rattle.pp_heap.specs.declared.state.Slot.TheVariants.{Free, Alias, Int, Atom, Compound}
use Rattle.pp_heap.specs.declared.state.Value.TheVariants as values
use Rattle.pp_heap.specs.declared.state.Entry.{Entry}
use Rattle.pp_heap.specs.declared.state.Entry.TheVariants.{Grown, Held, Bound, Narrowed, Added, Defined}
use Rattle.pp_heap.specs.Values.{slot_at, slot_term}
use Rattle.pp_heap.specs.Stores.{Store, before, single, made}
use Rattle.pp_heap.specs.Soundness.{IsLinked, IsSound}
use Rattle.pp_unify.specs.Tops.{IsAmong}
use Rattle.pp_unify.proofs.Heaps.{variable_cell}
use Rattle.pp_heap.proofs.Changes.{same_or_not, below_or, bound_within, past_take}
use Rattle.pp_heap.proofs.Made.{single_same, single_other, made_free}

mutual
  -- a variable of a term under s is one of what some variable of the term goes to
  pub comes_from : (s : ℕ → Tree ℕ) (t : Tree ℕ) (w : ℕ) → IsIn w (variables (put s t)) → (v : ℕ) × IsIn v (variables t) × IsIn w (variables (s v))
  comes_from s (int n) w i = absurd i
  comes_from s (node f ts) w i = comes_from_all s ts w i
  comes_from s (variable v) w i = (v, inl refl, i)

  pub comes_from_all : (s : ℕ → Tree ℕ) (ts : Trees ℕ) (w : ℕ) → IsIn w (variables_all (put_all s ts)) → (v : ℕ) × IsIn v (variables_all ts) × IsIn w (variables (s v))
  comes_from_all s none w i = absurd i
  comes_from_all s (more t ts) w i = elim (IsIn-either w (variables (put s t)) (variables_all (put_all s ts)) i) [
    | inl j ↦ (let r = comes_from s t w j in (r.0, IsIn-left r.0 (variables t) (variables_all ts) r.1, r.2))
    | inr j ↦ (let r = comes_from_all s ts w j in (r.0, IsIn-right r.0 (variables t) (variables_all ts) r.1, r.2))
  ]

-- each variable of the term is below n
abbrev pub IsBelow : ℕ → Tree ℕ → Type 0
IsBelow n t = (w : ℕ) → IsIn w (variables t) → w < n

pub put_below : (n : ℕ) (s : ℕ → Tree ℕ) (t : Tree ℕ) → ((v : ℕ) → IsIn v (variables t) → IsBelow n (s v)) → IsBelow n (put s t)
put_below n s t h w i = let r = comes_from s t w i in h r.0 r.1 w r.2

pub variable_below : (n v : ℕ) → v < n → IsBelow n (variable v)
variable_below n v l w (inl e) = omega (arith, e, l)
variable_below n v l w (inr i) = absurd i

single_below : (n x : ℕ) (t : Tree ℕ) (v : ℕ) → IsBelow n t → v < n → IsBelow n (single x t v)
single_below n x t v b l = elim (same_or_not v x) [
  | inl e ↦ subst (λ w. IsBelow n (single x t w)) (sym e) (subst (IsBelow n) (sym (single_same x t)) b)
  | inr d ↦ subst (IsBelow n) (sym (single_other x t v d)) (variable_below n v l)
]

abbrev bound_to : Store → ℕ → Tree ℕ
bound_to st v = slot_term st.heap (slot_at st.slots v) v

-- what a variable is bound to is a term over the variables
pub bound_among : (st : Store) (v : ℕ) → IsLinked st → v < length st.slots → IsAmong st.slots (bound_to st v)
bound_among st v l h = go (slot_at st.slots v) refl
  where
    go : (c : Slot) → slot_at st.slots v ≡ c → IsAmong st.slots (slot_term st.heap c v)
    go (Free d) e = variable_below (length st.slots) v h
    go (Alias w) e = variable_below (length st.slots) w (let t = l.bound v (values.Variable w) e in omega (arith, t, h))
    go (Int n) e = λ w i. absurd i
    go (Atom a) e = λ w i. absurd i
    go (Compound p) e = λ w i. let r = variable_cell st.heap p w l.forest (l.bound v (values.Compound p) e).0 i in l.variables r.0 w r.1

pub made_among : (es : List Entry) (st : Store) → IsSound es st → IsLinked st → (v : ℕ) → v < length st.slots → IsAmong st.slots (made es st v)
made_among [] st k l v h = absurd (let e : length st.slots ≡ 0 = ap length k in omega (arith, e, h))
made_among (Grown n ∷ es) st k l v h = put_below (length st.slots) variable (made es (before (Grown n) st) v) (λ w i. variable_below (length st.slots) w (made_among es (before (Grown n) st) k.2 k.1 v h w i))
made_among (Held n ∷ es) st k l v h = put_below (length st.slots) variable (made es (before (Held n) st) v) (λ w i. variable_below (length st.slots) w (made_among es (before (Held n) st) k.2 k.1 v h w i))
made_among (Bound x d ∷ es) st k l v h =
    let b = before (Bound x d) st in
    let m = length st.slots in
    let same : length b.slots ≡ m = length-set st.slots x (Free d) in
    let each : (w : ℕ) → w < m → IsBelow m (made es b w) = λ w i. subst (λ n. IsBelow n (made es b w)) same (made_among es b k.2 k.1 w (omega (arith, same, i))) in
    let t : IsBelow m (put (made es b) (bound_to st x)) = put_below m (made es b) (bound_to st x) (λ w i. each w (bound_among st x l (bound_within st.slots x k.0.0 k.0.1) w i)) in
    put_below m (single x (put (made es b) (bound_to st x))) (made es b v) (λ w i. single_below m x (put (made es b) (bound_to st x)) w t (each v h w i))
made_among (Narrowed x d ∷ es) st k l v h =
    let b = before (Narrowed x d) st in
    let m = length st.slots in
    let same : length b.slots ≡ m = length-set st.slots x (Free d) in
    put_below m variable (made es b v) (λ w i. variable_below m w (let r = made_among es b k.2 k.1 v (omega (arith, same, h)) w i in omega (arith, same, r)))
made_among (Added n ∷ es) st k l v h =
    let b = before (Added n) st in
    let m = length st.slots in
    let same : length b.slots ≡ n = length-take-le n st.slots k.0.0 in
    elim (below_or v n) [
      | inl i ↦ put_below m variable (made es b v) (λ w j. variable_below m w (let r = made_among es b k.2 k.1 v (omega (arith, same, i)) w j in omega (arith, same, r, k.0.0)))
      | inr i ↦ subst (IsBelow m) (sym (made_free (Added n ∷ es) st v (k.0.1 v i).0 k (k.0.1 v i).1)) (variable_below m v h)
    ]
made_among (Defined n ∷ es) st k l v h =
    let b = before (Defined n) st in
    let m = length st.slots in
    let same : length b.slots ≡ n = length-take-le n st.slots (omega (arith, k.0.3)) in
    let each : (w : ℕ) → w < m → IsBelow m (made es b w) = λ w i. elim (below_or w n) [
      | inl j ↦ (λ u q. let r = made_among es b k.2 k.1 w (omega (arith, same, j)) u q in omega (arith, same, r, k.0.3))
      | inr j ↦ subst (IsBelow m) (sym (made_free es b w None k.2 (past_take st.slots n w j))) (variable_below m w i)
    ] in
    let t : IsBelow m (put (made es b) (bound_to st n)) = put_below m (made es b) (bound_to st n) (λ w i. each w (bound_among st n l (bound_within st.slots n k.0.0 k.0.1) w i)) in
    put_below m (single n (put (made es b) (bound_to st n))) (made es b v) (λ w i. single_below m n (put (made es b) (bound_to st n)) w t (each v h w i))
