-- What stands at a place of a list.
use Rattle.std.proofs.Common.{◌≡◌, ℕ, zero, suc, ◌<◌, List, [], ◌∷◌, length, get_or, refl, arith}

-- it is the same, whatever is read where there is none
pub get_any : {A : Type 0} (xs : List A) (i : ℕ) (d e : A) → i < length xs → get_or xs i d ≡ get_or xs i e
get_any [] i d e l = absurd (omega (arith, l))
get_any (x ∷ xs) zero d e l = refl
get_any (x ∷ xs) (suc i) d e l = get_any xs i d e (omega (arith, l))
