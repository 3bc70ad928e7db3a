-- Which marks are kept by calls that add states, and by going back.
use Rattle.std.proofs.Common.{◌≡◌, ℕ, zero, suc, ◌<◌, ◌≤◌, List, [], ◌∷◌, ◌++◌, length, take, ap, ◌∙◌, arith, length-append}
use Rattle.pp_algebra.specs.Rows.{Row}
use Rattle.pp_unify.specs.States.{IsLonger}

pub kept : (m : ℕ) (xs ys : List Row) → IsLonger xs ys → m < length xs → m < length ys
kept m xs ys h l = omega (arith, l, ap length h.1, length-append xs h.0)

length-taken : (k : ℕ) (xs : List Row) → k ≤ length xs → length (take k xs) ≡ k
length-taken zero xs h = omega arith
length-taken (suc k) [] h = absurd (omega (arith, h))
length-taken (suc k) (x ∷ xs) h = ap suc (length-taken k xs (omega (arith, h)))

pub back : (m k : ℕ) (xs ys : List Row) → ys ≡ take (suc k) xs → m ≤ k → k < length xs → m < length ys
back m k xs ys e h l = omega (arith, h, ap length e, length-taken (suc k) xs (omega (arith, l)))
