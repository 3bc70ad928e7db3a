-- The members of a finite domain as a list, ascending.
use Rattle.std.specs.Prelude.{ℕ, ℤ, pos, negsuc, zero, suc, ◌+ℤ◌, ◌≤ℤ◌, List, [], ◌∷◌, filter}
use Rattle.std.specs.FinSet as set
use Rattle.pp_algebra.specs.Rows.{Domain}

-- n integers from `low` on
unfoldable pub integers_from : ℤ → ℕ → List ℤ
integers_from low zero = []
integers_from low (suc n) = low ∷ integers_from (low +ℤ pos 1) n

-- the integers of the language: from -1,000,000,000,000 to 1,000,000,000,000
abbrev pub least_integer : ℤ
least_integer = negsuc 999999999999

abbrev pub greatest_integer : ℤ
greatest_integer = pos 1000000000000

pub record IsInteger (n : ℤ) : Type 0 where
  pub at_least : least_integer ≤ℤ n
  pub at_most : n ≤ℤ greatest_integer

unfoldable pub all_integers : List ℤ
all_integers = integers_from least_integer 2000000000001

abbrev pub members : Domain → List ℤ
members d = filter (set.contains d) all_integers
