-- When two texts are the same.
use Rattle.std.specs.Prelude.{ℕ, Bool, nat_eq, List}
use Rattle.std.specs.Cmp.Lexicographic.{pointwise}

-- the same bytes in the same order
abbrev pub same_text : List ℕ → List ℕ → Bool
same_text = pointwise nat_eq
