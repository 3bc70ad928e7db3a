-- The next candidate, in the list of those that are left.
use Rattle.std.proofs.Common.{◌≡◌, ℕ, zero, suc, ◌+◌, ◌-◌, ◌<◌, ◌≤◌, true, cond, List, [], ◌∷◌, length, drop, Some, refl, ap, sym, ◌∙◌, arith, length-drop, inl, inr}
use Rattle.std.proofs.lemmas.List.{drop_all, drop-drop}
use Rattle.std.proofs.lemmas.Bool.{cases_order}
use Rattle.std.specs.Prelude.{slice_get}
use Rattle.pp_sld.specs.Goals as goals
use Rattle.pp_clause.specs.declared.first.First.{First}
use Rattle.pp_clause.specs.Firsts.{may_match, candidates_from, AreLeftOut, IsNextPlace}

module _ (f : First) where
  skipped : (cs : List goals.Clause) (n k : ℕ) → k ≤ length cs → AreLeftOut f cs 0 k → candidates_from f n cs ≡ candidates_from f (n + k) (drop k cs)
  skipped cs n zero l h = let e : n ≡ n + 0 = omega arith in ap (λ m. candidates_from f m cs) e
  skipped [] n (suc k) l h = absurd (omega (arith, l))
  skipped (c ∷ cs) n (suc k) l h =
      let e : suc n + k ≡ n + suc k = omega arith in
      ap (λ b. cond b (n ∷ candidates_from f (suc n) cs) (candidates_from f (suc n) cs)) (h 0 c (omega arith) (omega arith) refl)
      ∙ skipped cs (suc n) k (omega (arith, l)) (λ i d a b s. h (suc i) d (omega arith) (omega (arith, b)) s)
      ∙ ap (λ m. candidates_from f m (drop k cs)) e

  get-drop : (cs : List goals.Clause) (n i : ℕ) → slice_get (drop n cs) i ≡ slice_get cs (n + i)
  get-drop cs zero i = let e : i ≡ 0 + i = omega arith in ap (slice_get cs) e
  get-drop [] (suc n) i = refl
  get-drop (c ∷ cs) (suc n) i = let e : suc (n + i) ≡ suc n + i = omega arith in get-drop cs n i ∙ ap (slice_get (c ∷ cs)) e

  pub later : (cs : List goals.Clause) (n k : ℕ) → n ≤ k → k ≤ length cs → AreLeftOut f cs n k → candidates_from f n (drop n cs) ≡ candidates_from f k (drop k cs)
  later cs n k o m h =
      let e : n + (k - n) ≡ k = omega arith in
      skipped (drop n cs) n (k - n) (omega (arith, length-drop n cs)) (λ i c a b s. h (n + i) c (omega arith) (omega arith) (sym (get-drop cs n i) ∙ s))
      ∙ ap (candidates_from f (n + (k - n))) (drop-drop (k - n) n cs)
      ∙ ap (λ j. candidates_from f j (drop j cs)) e

  taken : (cs : List goals.Clause) (n k : ℕ) → k < length cs → ((c : goals.Clause) → slice_get cs k ≡ Some c → may_match f c ≡ true) → candidates_from f n (drop k cs) ≡ n ∷ candidates_from f (suc n) (drop (suc k) cs)
  taken [] n k l h = absurd (omega (arith, l))
  taken (c ∷ cs) n zero l h = ap (λ b. cond b (n ∷ candidates_from f (suc n) cs) (candidates_from f (suc n) cs)) (h c refl)
  taken (c ∷ cs) n (suc k) l h = taken cs n k (omega (arith, l)) h

  pub next : (cs : List goals.Clause) (n k : ℕ) → IsNextPlace f cs n k → candidates_from f n (drop n cs) ≡ k ∷ candidates_from f (k + 1) (drop (k + 1) cs)
  next cs n k h =
      let e : suc k ≡ k + 1 = omega arith in
      later cs n k h.later (omega (arith, h.within)) h.passed ∙ taken cs k k h.within h.matches ∙ ap (λ j. k ∷ candidates_from f j (drop j cs)) e

  -- where none is left
  pub no_more : (cs : List goals.Clause) (n : ℕ) → AreLeftOut f cs n (length cs) → candidates_from f n (drop n cs) ≡ []
  no_more cs n h = elim (cases_order n (length cs)) [
    | inl e ↦ ap (candidates_from f n) (drop_all n cs (omega (arith, e)))
    | inr o ↦ elim o [
      | inl l ↦ later cs n (length cs) (omega (arith, l)) (omega arith) h ∙ ap (candidates_from f (length cs)) (drop_all (length cs) cs (omega arith))
      | inr g ↦ ap (candidates_from f n) (drop_all n cs (omega (arith, g)))
    ]
  ]
