-- Laws of the greatest of heights.
use Rattle.std.specs.Prelude.{◌≡◌, ℕ, ◌≤◌, max, true, false, ◌&&◌, nat_eq, nat_lt}
use Rattle.std.proofs.Common.{refl, eqb→eq, arith}
use Rattle.std.proofs.lemmas.Bool.{and_from, and_parts, eq-eqb, le-leb, le-ltb, leb-true, lt-ltb, ltb-true}
use Rattle.std.specs.Bool.{passes}
use Rattle.pp_worker_tests.specs.Heights.{between, is_settled, outcome_of}

pub max_grouped : (a b c : ℕ) → max (max a b) c ≡ max a (max b c)
max_grouped a b c = omega arith

pub max_none : (a : ℕ) → max 0 a ≡ a
max_none a = omega arith

pub max_twice : (a : ℕ) → max a a ≡ a
max_twice a = omega arith

pub settled_stays : (a b : ℕ) → max a b ≡ b → is_settled a ≡ true → (is_settled b ≡ true) × (outcome_of a ≡ outcome_of b)
settled_stays a b below settled =
    let high : 1000000 ≤ a = leb-true 1000000 a settled in
    let low : a ≤ b = omega (arith, below) in
    (le-leb 1000000 b (omega (arith, high, low)), omega (arith, high, low))

pub same_as_itself : (a b : ℕ) → (nat_eq a a && nat_eq b b) ≡ true
same_as_itself a b = and_from (nat_eq a a) (nat_eq b b) (eq-eqb a a refl) (eq-eqb b b refl)

same_numbers : (a b c d : ℕ) → (nat_eq a c && nat_eq b d) ≡ true → (a ≡ c) × (b ≡ d)
same_numbers a b c d e =
    let both = and_parts (nat_eq a c) (nat_eq b d) e in
    (eqb→eq a c (passes (nat_eq a c) both.0), eqb→eq b d (passes (nat_eq b d) both.1))

pub same_worth : (a b c d : ℕ) → (nat_eq a c && nat_eq b d) ≡ true → between a b ≡ between c d
same_worth a b c d e = let is = same_numbers a b c d e in (λ i. between (is.0 i) (is.1 i))

pub less_than_itself : (a : ℕ) → nat_lt a a ≡ false
less_than_itself a = le-ltb a a (omega arith)

pub less_then : (b a c : ℕ) → nat_lt b a ≡ true → nat_lt c b ≡ true → nat_lt c a ≡ true
less_then b a c one two = lt-ltb c a (omega (arith, ltb-true b a one, ltb-true c b two))
