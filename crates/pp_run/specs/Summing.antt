-- What one column adds to a summary.
use Rattle.std.specs.Prelude.{ℕ}
use Rattle.pp_algebra.specs.Terms.{Tree, int, node, variable}

-- 1 for a term that is no variable
abbrev pub bound_of : Tree ℕ → ℕ
bound_of (int n) = 1
bound_of (node f ts) = 1
bound_of (variable v) = 0
