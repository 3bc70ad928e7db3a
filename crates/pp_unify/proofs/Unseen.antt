-- Changes of which nothing is seen now: the slots before them look as they do now.
use Rattle.std.proofs.Common.{◌≡◌, ℕ, ◌<◌, ◌≤◌, inl, inr, Bool, true, List, [], ◌∷◌, ◌++◌, length, reverse, set, Option, Some, None, refl, ap, sym, ◌∙◌, subst, arith, length-set}
use Rattle.std.specs.Prelude.{nat_le}
use Rattle.std.specs.List.{list_all}
use Rattle.std.proofs.lemmas.List.{length-take, reverse-append}
use Rattle.std.proofs.lemmas.List.Folds.{list_all-append}
use Rattle.std.proofs.lemmas.Bool.{or_cases, leb-true}
use Rattle.pp_algebra.proofs.Bools.{both_true, left_true, right_true}
use Rattle.pp_heap.specs.declared.state.Slot.{Slot}
use Rattle.pp_heap.specs.declared.state.Slot.TheVariants.{Free, Alias, Int, Atom, Compound}
use Rattle.pp_heap.specs.declared.state.Entry.{Entry}
use Rattle.pp_heap.specs.declared.state.Entry.TheVariants.{Grown, Held, Bound, Narrowed, Added, Defined}
use Rattle.pp_heap.specs.Values.{slot_at}
use Rattle.pp_heap.specs.Stores.{Store, before, undone}
use Rattle.pp_heap.specs.Soundness.{IsLinked, IsSound}
use Rattle.pp_heap.proofs.Changes.{same_or_not, at_same, at_other, at_take}
use Rattle.pp_unify.specs.Still.{is_as_free, is_unseen}

-- the same, or free with a finite domain
pub data Alike (a b : Slot) : Type 0 where
  same : a ≡ b → Alike a b
  ranged : (d e : ℕ) → a ≡ Free (Some d) → b ≡ Free (Some e) → Alike a b

as_free : (c : Slot) (d : Option ℕ) → is_as_free c d ≡ true → Alike (Free d) c
as_free (Free None) None h = same refl
as_free (Free None) (Some d) h = absurd (cc)
as_free (Free (Some e)) None h = absurd (cc)
as_free (Free (Some e)) (Some d) h = ranged d e refl refl
as_free (Alias w) d h = absurd (cc)
as_free (Int n) d h = absurd (cc)
as_free (Atom a) d h = absurd (cc)
as_free (Compound p) d h = absurd (cc)

pub fewer_before : (e : Entry) (st : Store) → length (before e st).slots ≤ length st.slots
fewer_before (Grown n) st = omega arith
fewer_before (Held n) st = omega arith
fewer_before (Bound x d) st = omega (arith, length-set st.slots x (Free d))
fewer_before (Narrowed x d) st = omega (arith, length-set st.slots x (Free d))
fewer_before (Added n) st = omega (arith, length-take n st.slots)
fewer_before (Defined n) st = omega (arith, length-take n st.slots)

pub fewer_undone : (es : List Entry) (st : Store) → length (undone es st).slots ≤ length st.slots
fewer_undone [] st = omega arith
fewer_undone (e ∷ es) st = omega (arith, fewer_undone es (before e st), fewer_before e st)

-- what held after the later changes held before them
pub sound_undone : (later es : List Entry) (st : Store) → IsLinked st → IsSound (later ++ es) st → IsLinked (undone later st) × IsSound es (undone later st)
sound_undone [] es st l s = (l, s)
sound_undone (e ∷ later) es st l s = sound_undone later es (before e st) s.1 s.2

-- v is a variable below k, and so many slots are left before the change
alike_before : (e : Entry) (st : Store) (now : List Slot) (k : ℕ) → is_unseen now k e ≡ true → ((v : ℕ) → v < k → Alike (slot_at st.slots v) (slot_at now v))
    → (v : ℕ) → v < k → v < length (before e st).slots → Alike (slot_at (before e st).slots v) (slot_at now v)
alike_before (Grown n) st now k u h v l w = h v l
alike_before (Held n) st now k u h v l w = h v l
alike_before (Bound x d) st now k u h v l w =
    let b = leb-true k x u in
    subst (λ c. Alike c (slot_at now v)) (sym (at_other st.slots x v (Free d) (λ e. omega (arith, e, b, l)))) (h v l)
alike_before (Narrowed x d) st now k u h v l w = elim (same_or_not v x) [
  | inl e ↦ (
      let t : x < length st.slots = omega (arith, e, w, length-set st.slots x (Free d)) in
      elim (or_cases (nat_le k x) (is_as_free (slot_at now x) d) u) [
        | inl b ↦ (let b' = leb-true k x b in absurd (omega (arith, e, b', l)))
        | inr f ↦ subst (λ y. Alike (slot_at (set st.slots x (Free d)) y) (slot_at now y)) (sym e) (subst (λ c. Alike c (slot_at now x)) (sym (at_same st.slots x (Free d) t)) (as_free (slot_at now x) d f))
      ])
  | inr n ↦ subst (λ c. Alike c (slot_at now v)) (sym (at_other st.slots x v (Free d) n)) (h v l)
]
alike_before (Added n) st now k u h v l w = subst (λ c. Alike c (slot_at now v)) (sym (at_take st.slots n v (omega (arith, w, length-take n st.slots)))) (h v l)
alike_before (Defined n) st now k u h v l w = subst (λ c. Alike c (slot_at now v)) (sym (at_take st.slots n v (omega (arith, w, length-take n st.slots)))) (h v l)

alike_from : (later : List Entry) (st : Store) (now : List Slot) (k : ℕ) → list_all (is_unseen now k) later ≡ true → k ≤ length (undone later st).slots
    → ((v : ℕ) → v < k → Alike (slot_at st.slots v) (slot_at now v)) → (v : ℕ) → v < k → Alike (slot_at (undone later st).slots v) (slot_at now v)
alike_from [] st now k u n h v l = h v l
alike_from (e ∷ later) st now k u n h v l =
    alike_from later (before e st) now k (right_true (is_unseen now k e) (list_all (is_unseen now k) later) u) n
    (λ w b. alike_before e st now k (left_true (is_unseen now k e) (list_all (is_unseen now k) later) u) h w b (omega (arith, b, n, fewer_undone later (before e st)))) v l

pub alike_undone : (later : List Entry) (st : Store) (k : ℕ) → list_all (is_unseen st.slots k) later ≡ true → k ≤ length (undone later st).slots → (v : ℕ) → v < k → Alike (slot_at (undone later st).slots v) (slot_at st.slots v)
alike_undone later st k u n v l = alike_from later st st.slots k u n (λ w b. same refl) v l

-- from the last to the first
pub all_reversed : {A : Type 0} (p : A → Bool) (xs : List A) → list_all p xs ≡ true → list_all p (reverse xs) ≡ true
all_reversed p [] h = refl
all_reversed p (x ∷ xs) h =
    ap (list_all p) (reverse-append (x ∷ []) xs) ∙ list_all-append p (reverse xs) (x ∷ [])
    ∙ both_true (list_all p (reverse xs)) (list_all p (x ∷ [])) (all_reversed p xs (right_true (p x) (list_all p xs) h)) (both_true (p x) true (left_true (p x) (list_all p xs) h) refl)
