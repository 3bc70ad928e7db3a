-- The first bytes of a text, cut in two.
use Rattle.std.proofs.Common.{◌≡◌, ℕ, zero, suc, ◌+◌, ◌-◌, ◌≤◌, [], ◌∷◌, ◌++◌, take, drop, refl, ap, sym, ◌∙◌, arith}
use Rattle.std.proofs.lemmas.List.{drop-drop}
use Rattle.pp_language.specs.Texts.{Text, part}

take-nil : (m : ℕ) → take {A = ℕ} m [] ≡ []
take-nil zero = refl
take-nil (suc m) = refl

pub take-split : (text : Text) (i m : ℕ) → take (i + m) text ≡ take i text ++ take m (drop i text)
take-split text zero m = let e : 0 + m ≡ m = omega arith in rw e refl
take-split [] (suc i) m = let e : suc i + m ≡ suc (i + m) = omega arith in rw e (sym (take-nil m))
take-split (b ∷ bs) (suc i) m = let e : suc i + m ≡ suc (i + m) = omega arith in rw e (ap (λ r. b ∷ r) (take-split bs i m))

-- from place i to place k over place j
pub part-split : (text : Text) (i j k : ℕ) → i ≤ j → j ≤ k → part text i k ≡ part text i j ++ part text j k
part-split text i j k low high =
    let e : k - i ≡ (j - i) + (k - j) = omega arith in
    let f : i + (j - i) ≡ j = omega arith in
    ap (λ n. take n (drop i text)) e
    ∙ take-split (drop i text) (j - i) (k - j)
    ∙ ap (λ r. take (j - i) (drop i text) ++ take (k - j) r) (drop-drop (j - i) i text ∙ ap (λ n. drop n text) f)
