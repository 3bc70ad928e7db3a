-- Which of two lists of intervals is next, by where the intervals begin.
use Rattle.std.specs.Prelude.{ℕ, ℤ, pos, ◌≤ℤ◌, ◌<◌, List, length, slice_index_or}

-- ps has an interval at i, which begins no later than that of qs at j
pub record IsNext (ps : List (ℤ × ℤ)) (i : ℕ) (qs : List (ℤ × ℤ)) (j : ℕ) : Type 0 where
  pub within : i < length ps
  pub first : j < length qs → (slice_index_or ps i (pos 0, pos 0)).0 ≤ℤ (slice_index_or qs j (pos 0, pos 0)).0
