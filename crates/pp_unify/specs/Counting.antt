-- A substitution after the numbers of variables were counted from a first one.
use Rattle.std.specs.Prelude.{ℕ, ◌+◌}
use Rattle.pp_algebra.specs.Terms.{Tree}

abbrev pub counted : ℕ → (ℕ → Tree ℕ) → ℕ → Tree ℕ
counted first s v = s (first + v)
