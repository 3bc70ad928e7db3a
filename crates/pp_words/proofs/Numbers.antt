-- Numbers of at most seven digits are below ten million.
use Rattle.std.proofs.Common.{◌≡◌, ℕ, zero, suc, ◌+◌, ◌-◌, ◌*◌, ◌<◌, ◌≤◌, true, [], ◌∷◌, length, arith}
use Rattle.std.specs.List.{list_all}
use Rattle.pp_language.specs.Texts.{Text, is_digit}
use Rattle.pp_language.specs.Kinds.{value_of, are_digits}

abbrev widest : ℕ → ℕ → ℕ
widest zero m = m
widest (suc k) m = widest k (10 * m)

widest_grows : (k m : ℕ) → m ≤ widest k m
widest_grows zero m = omega arith
widest_grows (suc k) m = omega (arith, widest_grows k (10 * m))

value_below : (k n m : ℕ) (ds : Text) → list_all is_digit ds ≡ true → length ds ≤ k → n < m → value_of n ds < widest k m
value_below k n m [] h l b = omega (arith, widest_grows k m)
value_below zero n m (d ∷ ds) h l b = absurd (omega arith)
value_below (suc k) n m (d ∷ ds) h l b =
    let digit : d ≤ 57 = grind (arith, h) in
    let rest : list_all is_digit ds ≡ true = grind (arith, h) in
    value_below k (10 * n + (d - 48)) (10 * m) ds rest (omega arith) (omega arith)

digits_all : (w : Text) → are_digits w ≡ true → list_all is_digit w ≡ true
digits_all [] h = absurd (cc h)
digits_all (d ∷ ds) h = h

pub number_below : (w : Text) → are_digits w ≡ true → length w ≤ 7 → value_of 0 w < 10000000
number_below w h l = value_below 7 0 1 w (digits_all w h) l (omega arith)
