-- Ascending numbers.
use Rattle.std.specs.Prelude.{ℕ, ◌<◌, List, [], ◌∷◌}
use Rattle.pp_algebra.specs.Covers.{IsIn}

-- each is less than all that come after it
abbrev pub IsAscending : List ℕ → Type 0
IsAscending [] = Unit {0}
IsAscending (k ∷ ks) = ((j : ℕ) → IsIn j ks → k < j) × IsAscending ks
