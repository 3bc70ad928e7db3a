-- What stands in a list once other things were put at some of its places.
use Rattle.std.specs.Prelude.{ℕ, cond, nat_eq, List}
use Rattle.pp_algebra.specs.Canon.{has, place}

-- the k-th of the places gets the k-th of what is put there; any other place keeps what it has
abbrev pub written : {A : Type 0} → List ℕ → (ℕ → A) → (ℕ → A) → ℕ → A
written places new old v = cond (has nat_eq places v) (new (place nat_eq places v)) (old v)
