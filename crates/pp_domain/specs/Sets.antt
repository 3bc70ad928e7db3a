-- The sets of integers that lists of intervals stand for.
use Rattle.std.specs.Prelude.{◌≡◌, ℕ, ℤ, List, Option, Some, None, IsTrue, int_lt}
use Rattle.std.specs.FinSet as set
use Rattle.pp_algebra.specs.Rows.{Domain}
use Rattle.pp_domain.specs.Intervals.{IsDomain, integers}

-- the set of the integers that lie in one of the intervals
unfoldable pub set_of : List (ℤ × ℤ) → Domain
set_of ps = set.from_list (integers ps)

-- ps is the domain of the set s: no other list is, since equal sets have equal lists
abbrev pub IsDomainOf : List (ℤ × ℤ) → Domain → Type 0
IsDomainOf ps s = IsDomain ps × (set_of ps ≡ s)

-- the domain of a set, or None where the set is empty
abbrev pub IsDomainOrNone : Option (List (ℤ × ℤ)) → Domain → Type 0
IsDomainOrNone None s = s ≡ set.empty
IsDomainOrNone (Some ps) s = IsDomainOf ps s

-- v is a member with exactly `place` smaller members
abbrev pub IsNth : Domain → ℕ → ℤ → Type 0
IsNth s place v = IsTrue (set.contains s v) × (set.len (set.retain s (λ n. int_lt n v)) ≡ place)
