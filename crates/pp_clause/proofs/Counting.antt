-- The variables of terms among others.
use Rattle.std.proofs.Common.{◌≡◌, ℕ, zero, suc, ◌+◌, ◌<◌, List, [], ◌∷◌, length, get_or, subst, arith}
use Rattle.pp_algebra.specs.Covers.{IsIn}
use Rattle.pp_algebra.specs.Terms.{Tree, variables, variables_all}
use Rattle.pp_algebra.proofs.Order.{IsIn-left, IsIn-right}
use Rattle.pp_row.specs.Columns.{trees_of}
use Rattle.pp_term.specs.WellFormed.{AreBelow}

pub in_all : (ts : List (Tree ℕ)) (i : ℕ) (t : Tree ℕ) (v : ℕ) → i < length ts → t ≡ get_or ts i t → IsIn v (variables t) → IsIn v (variables_all (trees_of ts))
in_all [] i t v l e h = absurd (omega (arith, l))
in_all (u ∷ ts) zero t v l e h = IsIn-left v (variables u) (variables_all (trees_of ts)) (subst (λ x. IsIn v (variables x)) e h)
in_all (u ∷ ts) (suc i) t v l e h = IsIn-right v (variables u) (variables_all (trees_of ts)) (in_all ts i t v (omega (arith, l)) e h)

-- a term of these has room
pub fits_at : (ts : List (Tree ℕ)) (i : ℕ) (t : Tree ℕ) (n m : ℕ) → i < length ts → t ≡ get_or ts i t → AreBelow n ts → m + n < 4294967296 → (v : ℕ) → IsIn v (variables t) → m + v < 4294967296
fits_at ts i t n m l e b f = λ v h. let w = b v (in_all ts i t v l e h) in omega (arith, w, f)
