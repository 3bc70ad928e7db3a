-- The number that digits write, digit by digit.
use Rattle.std.proofs.Common.{◌≡◌, ℕ, ◌+◌, ◌-◌, ◌*◌, ◌<◌, ◌≤◌, [], ◌∷◌, ◌++◌, length, take, drop, get_or, refl, ap, sym, ◌∙◌, subst, arith, take-append-drop}
use Rattle.std.proofs.lemmas.List.{take_more}
use Rattle.pp_language.specs.Texts.{Text}
use Rattle.pp_language.specs.Kinds.{value_of}

pub value_of-append : (n : ℕ) (bs cs : Text) → value_of n (bs ++ cs) ≡ value_of (value_of n bs) cs
value_of-append n [] cs = refl
value_of-append n (b ∷ bs) cs = value_of-append (10 * n + (b - 48)) bs cs

pub value_grows : (n : ℕ) (bs : Text) → n ≤ value_of n bs
value_grows n [] = omega arith
value_grows n (b ∷ bs) = omega (arith, value_grows (10 * n + (b - 48)) bs)

pub value_of-take_more : (bs : Text) (i d : ℕ) → i < length bs → value_of 0 (take (i + 1) bs) ≡ 10 * value_of 0 (take i bs) + (get_or bs i d - 48)
value_of-take_more bs i d l = ap (value_of 0) (take_more bs i d l) ∙ value_of-append 0 (take i bs) (get_or bs i d ∷ [])

pub value_of-take-le : (bs : Text) (i : ℕ) → value_of 0 (take i bs) ≤ value_of 0 bs
value_of-take-le bs i = subst (λ n. value_of 0 (take i bs) ≤ n) (sym (value_of-append 0 (take i bs) (drop i bs)) ∙ ap (value_of 0) (take-append-drop i bs)) (value_grows (value_of 0 (take i bs)) (drop i bs))
