-- Which lists of intervals are finite domains, and which integers lie in them.
use Rattle.std.specs.Prelude.{ℕ, ℤ, zero, suc, pos, negsuc, ◌+ℤ◌, ◌-ℤ◌, ◌≤ℤ◌, ◌<ℤ◌, ◌<◌, ◌⊎◌, List, [], ◌∷◌, ◌++◌, length}
use Rattle.pp_algebra.specs.Members.{integers_from}

-- the integers of the language are those above the one and below the other
abbrev pub lower_limit : ℤ
lower_limit = negsuc 1_000_000_000_000

abbrev pub upper_limit : ℤ
upper_limit = pos 1_000_000_000_001

-- ascending, disjoint and not adjacent, all above `low` and below `high`
abbrev pub IsApart : ℤ → List (ℤ × ℤ) → ℤ → Type 0
IsApart low [] high = low ≤ℤ high
IsApart low (p ∷ ps) high = (low <ℤ p.0) × (p.0 ≤ℤ p.1) × IsApart (p.1 +ℤ pos 1) ps high

-- the same, within the integers of the language
abbrev pub IsApartInside : List (ℤ × ℤ) → Type 0
IsApartInside ps = IsApart lower_limit ps upper_limit

-- a finite domain: at least one interval
pub record IsDomain (ps : List (ℤ × ℤ)) : Type 0 where
  pub some : 0 < length ps
  pub apart : IsApartInside ps

-- v lies in one of the intervals
abbrev pub Lies : List (ℤ × ℤ) → ℤ → Type 0
Lies [] v = ⊥
Lies (p ∷ ps) v = ((p.0 ≤ℤ v) × (v ≤ℤ p.1)) ⊎ Lies ps v

-- how many integers there are from `low` to `high`
abbrev pub natural : ℤ → ℕ
natural (pos n) = n
natural (negsuc n) = 0

unfoldable pub count : ℤ → ℤ → ℕ
count low high = natural ((high -ℤ low) +ℤ pos 1)

-- all integers of the intervals, ascending where the intervals are
unfoldable pub integers : List (ℤ × ℤ) → List ℤ
integers [] = []
integers (p ∷ ps) = integers_from p.0 (count p.0 p.1) ++ integers ps
