-- Terms over numbered variables: the variables from a number on, columns by their numbers, and lists that are numbered by first occurrence.
use Rattle.std.proofs.Common.{◌≡◌, ℕ, zero, suc, ◌+◌, ◌<◌, ◌≤◌, List, [], ◌∷◌, refl, ap, ◌∙◌, inl, inr, arith}
use Rattle.pp_algebra.specs.Terms.{Tree, variable, Trees, none, more, count, put, put_all, variables_all}
use Rattle.pp_algebra.specs.Rows.{IsNumbered}
use Rattle.pp_algebra.specs.Covers.{IsIn}
use Rattle.pp_algebra.specs.Numbered.{variables_from, column}

-- ===== the variables from a number on

pub count-from : (first n : ℕ) → count (variables_from first n) ≡ n
count-from first zero = refl
count-from first (suc n) = ap suc (count-from (suc first) n)

pub from_numbered : (first n m : ℕ) → first + n ≡ m → IsNumbered first (variables_all (variables_from first n)) m
from_numbered first zero m e = omega (arith, e)
from_numbered first (suc n) m e = inr (refl, from_numbered (suc first) n m (omega (arith, e)))

pub from-below : (first n v : ℕ) → IsIn v (variables_all (variables_from first n)) → v < first + n
from-below first zero v i = absurd i
from-below first (suc n) v (inl e) = omega (arith, e)
from-below first (suc n) v (inr i) = let h = from-below (suc first) n v i in omega (arith, h)

pub column-from : (first n v : ℕ) → v < n → column (variables_from first n) v ≡ variable (first + v)
column-from first zero v l = absurd (omega (arith, l))
column-from first (suc n) zero l = ap variable (omega arith)
column-from first (suc n) (suc v) l = column-from (suc first) n v (omega (arith, l)) ∙ ap variable (omega arith)

-- ===== a column by its number

pub column-put : (s : ℕ → Tree ℕ) (ts : Trees ℕ) (v : ℕ) → v < count ts → column (put_all s ts) v ≡ put s (column ts v)
column-put s none v l = absurd (omega (arith, l))
column-put s (more t ts) zero l = refl
column-put s (more t ts) (suc v) l = column-put s ts v (omega (arith, l))

-- ===== numbers by first occurrence

pub numbered_grows : (vs : List ℕ) (n m : ℕ) → IsNumbered n vs m → n ≤ m
numbered_grows [] n m h = omega (arith, h)
numbered_grows (x ∷ vs) n m (inl h) = numbered_grows vs n m h.1
numbered_grows (x ∷ vs) n m (inr h) = omega (arith, numbered_grows vs (suc n) m h.1)

pub numbered_below : (vs : List ℕ) (n m v : ℕ) → IsNumbered n vs m → IsIn v vs → v < m
numbered_below [] n m v h i = absurd i
numbered_below (x ∷ vs) n m v (inl h) (inl e) = omega (arith, e, h.0, numbered_grows vs n m h.1)
numbered_below (x ∷ vs) n m v (inr h) (inl e) = omega (arith, e, h.0, numbered_grows vs (suc n) m h.1)
numbered_below (x ∷ vs) n m v (inl h) (inr i) = numbered_below vs n m v h.1 i
numbered_below (x ∷ vs) n m v (inr h) (inr i) = numbered_below vs (suc n) m v h.1 i
