-- The goals whose face isn't what it was, among ascending candidates.
use Rattle.std.proofs.Common.{◌≡◌, ℕ, suc, ◌+◌, ◌<◌, ◌≤◌, inl, inr, Bool, true, false, List, [], ◌∷◌, length, Some, refl, ap, sym, ◌∙◌, arith}
use Rattle.std.specs.Prelude.{◌↔◌, IsTrue, not, ◌&&◌, cond, filter}
use Rattle.std.proofs.lemmas.Bool.{cases_eq}
use Rattle.pp_algebra.specs.Rows.{Row}
use Rattle.pp_algebra.specs.Covers.{IsIn}
use Rattle.pp_algebra.specs.Canon.{same_row}
use Rattle.pp_algebra.proofs.SameRow.{same_row-sound, same_row-itself}
use Rattle.pp_propagation.specs.Stores.{Asked, face}
use Rattle.pp_propagation.specs.Turns.{goal_at, woken}
use Rattle.pp_store.proofs.Numbering.{goal_there}
use Rattle.pp_store.specs.Ascending.{IsAscending}
use Rattle.pp_store.specs.Changing.{face_by, differs}

pub same_tells : (r q s t : Row) (b : Bool) → IsTrue b ↔ (r ≡ q) → r ≡ s → q ≡ t → b ≡ same_row s t
same_tells r q s t true h e f = sym (ap (same_row s) (sym f ∙ sym (h.0 refl) ∙ e) ∙ same_row-itself s)
same_tells r q s t false h e f = apart (same_row s t) refl
  where
    apart : (c : Bool) → same_row s t ≡ c → false ≡ same_row s t
    apart true g = let x : false ≡ true = h.1 (e ∙ same_row-sound s t g ∙ sym f) in absurd (cc (x))
    apart false g = sym g

module _ (old new : Row) (d : ℕ → Bool) where
  -- the test tells of these goals, the first of which has this number
  abbrev Tells : ℕ → List Asked → Type 0
  Tells n gs = (i : ℕ) (a : Asked) → goal_at gs (suc i) ≡ Some a → d (n + i) ≡ not (same_row (face old a.goal) (face new a.goal))

  tells_later : (n : ℕ) (a : Asked) (gs : List Asked) → Tells n (a ∷ gs) → Tells (suc n) gs
  tells_later n a gs h i b e = ap d (omega arith) ∙ h (suc i) b e

  head_is : (n : ℕ) (a : Asked) (gs : List Asked) → Tells n (a ∷ gs) → (b : Bool) → d n ≡ b → woken old new [] n (a ∷ gs) ≡ cond b (n ∷ woken old new [] (suc n) gs) (woken old new [] (suc n) gs)
  head_is n a gs h b e =
      let first : d n ≡ not (same_row (face old a.goal) (face new a.goal)) = ap d (omega arith) ∙ h 0 a refl in
      ap (λ c. cond (c && not false) (n ∷ woken old new [] (suc n) gs) (woken old new [] (suc n) gs)) (sym first ∙ e) ∙ elim b as (λ b. cond (b && not false) (n ∷ woken old new [] (suc n) gs) (woken old new [] (suc n) gs) ≡ cond b (n ∷ woken old new [] (suc n) gs) (woken old new [] (suc n) gs)) [ true ↦ refl | false ↦ refl ]

  not_among : (n : ℕ) (ks : List ℕ) → ((k : ℕ) → IsIn k ks → suc n ≤ k) → IsIn n ks → ⊥
  not_among n ks h i = absurd (omega (arith, h n i))

  pub woken_from : (gs : List Asked) (n : ℕ) (ks : List ℕ) → IsAscending ks → ((k : ℕ) → IsIn k ks → (n ≤ k) × (k < n + length gs)) → Tells n gs → ((k : ℕ) → n ≤ k → k < n + length gs → (IsIn k ks → ⊥) → d k ≡ false)
      → filter d ks ≡ woken old new [] n gs
  woken_from [] n [] up within h missing = refl
  woken_from [] n (k ∷ ks) up within h missing = let w = within k (inl refl) in absurd (omega (arith, w.0, w.1))
  woken_from (a ∷ gs) n [] up within h missing =
      woken_from gs (suc n) [] up (λ k i. absurd i) (tells_later n a gs h) (λ k l m f. missing k (omega (arith, l)) (omega (arith, m)) f)
      ∙ sym (head_is n a gs h false (missing n (omega arith) (omega arith) (λ i. i)))
  woken_from (a ∷ gs) n (k ∷ ks) up within h missing = elim (cases_eq k n) [
    | inl e ↦ (
        let rest : filter d ks ≡ woken old new [] (suc n) gs =
        woken_from gs (suc n) ks up.1 (λ j i. (omega (arith, up.0 j i, e), omega (arith, (within j (inr i)).1))) (tells_later n a gs h)
        (λ j l m f. missing j (omega (arith, l)) (omega (arith, m)) (λ i. elim i [ inl g ↦ absurd (omega (arith, g, e, l)) | inr i ↦ f i ])) in
        ap (λ x. cond (d x) (x ∷ filter d ks) (filter d ks)) e ∙ ap (λ xs. cond (d n) (n ∷ xs) xs) rest ∙ sym (head_is n a gs h (d n) refl))
    | inr f ↦ (
        let above : suc n ≤ k = omega (arith, f, (within k (inl refl)).0) in
        let all : (j : ℕ) → IsIn j (k ∷ ks) → suc n ≤ j = λ j i. elim i [ inl e ↦ omega (arith, e, above) | inr i ↦ omega (arith, up.0 j i, above) ] in
        woken_from gs (suc n) (k ∷ ks) up (λ j i. (all j i, omega (arith, (within j i).1))) (tells_later n a gs h)
        (λ j l m g. missing j (omega (arith, l)) (omega (arith, m)) g)
        ∙ sym (head_is n a gs h false (missing n (omega arith) (omega arith) (not_among n (k ∷ ks) all))))
  ]

-- the goals that have another face are woken, as they stand among candidates that leave out no such goal
pub woken_is : (old new : Row) (gs : List Asked) (ks : List ℕ) → IsAscending ks → ((k : ℕ) → IsIn k ks → (1 ≤ k) × (k ≤ length gs)) → ((k : ℕ) (a : Asked) → goal_at gs k ≡ Some a → (IsIn k ks → ⊥) → face new a.goal ≡ face old a.goal)
    → filter (differs gs old new) ks ≡ woken old new [] 1 gs
woken_is old new gs ks up within same =
    woken_from old new (differs gs old new) gs 1 ks up (λ k i. (let w = within k i in (w.0, omega (arith, w.1))))
    (λ i a e. ap (λ o. not (same_row (face_by old o) (face_by new o))) (ap (goal_at gs) (omega arith) ∙ e))
    (λ k l m f. (let a = goal_there gs k l (omega (arith, m)) in ap (λ o. not (same_row (face_by old o) (face_by new o))) a.1 ∙ ap (λ r. not (same_row (face old a.0.goal) r)) (same k a.0 a.1 f) ∙ ap not (same_row-itself (face old a.0.goal))))
