-- Flags of the goals whose last verdict was that they are unfinished.
use Rattle.std.proofs.Common.{◌≡◌, ℕ, suc, ◌+◌, ◌-◌, ◌<◌, ◌≤◌, Bool, false, List, [], ◌∷◌, ◌++◌, length, get_or, set, replicate, Some, None, refl, ap, sym, ◌∙◌, inl, inr, arith}
use Rattle.std.specs.Prelude.{nat_eq, cond, filter}
use Rattle.std.proofs.lemmas.Bool.{cases_eq, ne_eqb}
use Rattle.std.proofs.lemmas.List.{get_or-set_same, get_or-set_other, get_or-replicate}
use Rattle.pp_algebra.proofs.Bools.{nat_same}
use Rattle.pp_propagation.specs.Turns.{Commit}
use Rattle.pp_propagation.specs.Histories.{last_verdict, is_unfinished, numbers_from, unfinished_goals}
use Rattle.pp_fixpoint.proofs.Settled.{last-push}
use Rattle.pp_fix.specs.Marked.{marked}

-- the k-th flag is that of goal k + 1
abbrev pub AreFlags : ℕ → List Commit → List Bool → Type 0
AreFlags n history flags = (k : ℕ) → k < n → get_or flags k false ≡ is_unfinished (last_verdict None (suc k) history)

pub none_is_up : (n : ℕ) → AreFlags n [] (replicate n false)
none_is_up n k l = get_or-replicate n k false false l

pub flag_set : (n : ℕ) (history : List Commit) (flags : List Bool) (c : Commit) → AreFlags n history flags → length flags ≡ n → 1 ≤ c.goal → c.goal ≤ n → AreFlags n (history ++ c ∷ []) (set flags (c.goal - 1) (is_unfinished (Some c.verdict)))
flag_set n history flags c a many low high k l = elim (cases_eq k (c.goal - 1)) [
  | inl e ↦ (let here : c.goal ≡ suc k = omega (arith, e, low) in
      ap (λ j. get_or (set flags (c.goal - 1) (is_unfinished (Some c.verdict))) j false) e
      ∙ get_or-set_same flags (c.goal - 1) (is_unfinished (Some c.verdict)) false (omega (arith, e, l, many))
      ∙ sym (ap is_unfinished (last-push None (suc k) history c ∙ ap (λ b. cond b (Some c.verdict) (last_verdict None (suc k) history)) (ap (λ j. nat_eq j (suc k)) here ∙ nat_same (suc k)))))
  | inr f ↦ (let elsewhere : nat_eq c.goal (suc k) ≡ false = ne_eqb c.goal (suc k) (λ x. f (omega (arith, x))) in
      get_or-set_other flags (c.goal - 1) k (is_unfinished (Some c.verdict)) false f ∙ a k l
      ∙ sym (ap is_unfinished (last-push None (suc k) history c ∙ ap (λ b. cond b (Some c.verdict) (last_verdict None (suc k) history)) elsewhere)))
]

marked_from : (p : ℕ → Bool) (first : ℕ) (flags : List Bool) → ((k : ℕ) → k < length flags → get_or flags k false ≡ p (first + k)) → marked first flags ≡ filter p (numbers_from first (length flags))
marked_from p first [] h = refl
marked_from p first (b ∷ flags) h =
    let here : b ≡ p first = h 0 (omega arith) ∙ ap p (omega arith) in
    let rest : marked (suc first) flags ≡ filter p (numbers_from (suc first) (length flags)) = marked_from p (suc first) flags (λ k l. h (suc k) (omega (arith, l)) ∙ ap p (omega arith)) in
    ap (λ c. cond c (first ∷ marked (suc first) flags) (marked (suc first) flags)) here
    ∙ ap (λ ks. cond (p first) (first ∷ ks) ks) rest

pub marked_is : (n : ℕ) (history : List Commit) (flags : List Bool) → AreFlags n history flags → length flags ≡ n → marked 1 flags ≡ unfinished_goals n history
marked_is n history flags a many =
    marked_from (λ k. is_unfinished (last_verdict None k history)) 1 flags (λ k l. a k (omega (arith, l, many)) ∙ ap (λ j. is_unfinished (last_verdict None j history)) (let e : suc k ≡ 1 + k = omega arith in e))
    ∙ ap (λ m. filter (λ k. is_unfinished (last_verdict None k history)) (numbers_from 1 m)) many
