-- Logs that are gathered one after another.
use Rattle.std.proofs.Common.{◌≡◌, ℕ, zero, suc, ◌<◌, ◌+◌, List, [], ◌∷◌, ◌++◌, slice_get, Some, length, drop, remove, get_or, refl, sym, ap, ◌∙◌, subst, ⊎_elim, arith}
use mathlib.Core.Logic.{dite}
use native.Mathlib.Decide.{ℕ_discrete}
use Rattle.std.proofs.Math.Numerals.{add-one}
use Rattle.std.proofs.lemmas.List.{append_assoc}
use Rattle.pp_turn.specs.Logs.{Ordered, longer}
use Rattle.pp_turn.proofs.Lists.{append_nil, longer_left, longer_right}
use Rattle.pp_cell.specs.Gathers.{Begins, Gathers}

module _ {L : Type 0} where
  pub gathers_first : (logs : List (List L)) (x : List L) → slice_get logs 0 ≡ Some x → Gathers logs 1 x
  gathers_first logs x at = record {
    all = λ i y e lt. let zero : i ≡ 0 = omega arith in let e' : slice_get logs 0 ≡ Some y = ap (slice_get logs) (sym zero) ∙ e in let same : x ≡ y = cc in ([], same ∙ sym (append_nil y));
    one = (0, at);
  }

  begins_more : (x y z : List L) → Begins x y → Begins y z → Begins x z
  begins_more x y z a b = (a.0 ++ b.0, b.1 ∙ (ap (λ (l : List L). l ++ b.0) a.1 ∙ append_assoc x a.0 b.0))

  pub gathers_next : (logs : List (List L)) (k : ℕ) (log y : List L) → Gathers logs k log → slice_get logs k ≡ Some y → Ordered log y → Gathers logs (k + 1) (longer log y)
  gathers_next logs k log y g at = ⊎_elim
      (λ (p : (more : List L) × (y ≡ log ++ more)).
      let same : longer log y ≡ y = ap (λ (l : List L). longer log l) p.1 ∙ (longer_right log p.0 ∙ sym p.1) in
      subst (λ (l : List L). Gathers logs (k + 1) l) (sym same) record {
        all = λ i x e lt. dite (ℕ_discrete i k)
            (λ (is : i ≡ k). let e' : slice_get logs k ≡ Some x = ap (slice_get logs) (sym is) ∙ e in let xy : y ≡ x = cc in ([], xy ∙ sym (append_nil x)))
            (λ off. begins_more x log y (g.all i x e (omega arith)) (p.0, p.1));
        one = (k, at);
      })
      (λ (p : (more : List L) × (log ≡ y ++ more)).
      let same : longer log y ≡ log = ap (λ (l : List L). longer l y) p.1 ∙ (longer_left y p.0 ∙ sym p.1) in
      subst (λ (l : List L). Gathers logs (k + 1) l) (sym same) record {
        all = λ i x e lt. dite (ℕ_discrete i k)
            (λ (is : i ≡ k). let e' : slice_get logs k ≡ Some x = ap (slice_get logs) (sym is) ∙ e in let xy : y ≡ x = cc in subst (λ (l : List L). Begins l log) xy (p.0, p.1))
            (λ off. g.all i x e (omega arith));
        one = g.one;
      })

module _ {A : Type 0} where
  -- the first of what is left is the one at that place
  pub next_at : (all rest : List A) (k : ℕ) (x : A) → rest ≡ drop k all → 0 < length rest → x ≡ get_or rest 0 x → slice_get all k ≡ Some x
  next_at [] rest zero x e lt at = let no : length rest ≡ 0 = ap length e in absurd (omega arith)
  next_at [] rest (suc k) x e lt at = let no : length rest ≡ 0 = ap length e in absurd (omega arith)
  next_at (y ∷ ys) rest zero x e lt at = ap Some (sym (at ∙ ap (λ l. get_or l 0 x) e))
  next_at (y ∷ ys) rest (suc k) x e lt at = next_at ys rest k x e lt at

  pub next_rest : (all rest : List A) (k : ℕ) → rest ≡ drop k all → remove rest 0 ≡ drop (k + 1) all
  next_rest all rest k e = ap (λ l. remove l 0) e ∙ (tails all k ∙ ap (λ (n : ℕ). drop n all) (sym (add-one k)))
    where
      tails : (all : List A) (k : ℕ) → remove (drop k all) 0 ≡ drop (suc k) all
      tails [] zero = refl
      tails [] (suc k) = refl
      tails (y ∷ ys) zero = refl
      tails (y ∷ ys) (suc k) = tails ys k
