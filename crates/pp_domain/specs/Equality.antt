-- What `==` of two domains answers.
use Rattle.std.specs.Prelude.{ℤ, Bool, ◌&&◌, List}
use Rattle.std.specs.Ordering.{int_eq}
use Rattle.std.specs.Cmp.{IsEquivalence, and_equiv, on_equiv, int_eq_equiv}
use Rattle.std.specs.Cmp.Lexicographic.{pointwise, lists_equiv}

abbrev pub same_ends : ℤ × ℤ → ℤ × ℤ → Bool
same_ends p q = int_eq p.0 q.0 && int_eq p.1 q.1

-- true exactly where the lists are equal
abbrev pub same_intervals : List (ℤ × ℤ) → List (ℤ × ℤ) → Bool
same_intervals = pointwise same_ends

pub same_intervals_equiv : IsEquivalence same_intervals
same_intervals_equiv = lists_equiv (and_equiv (on_equiv (λ (p : ℤ × ℤ). p.0) int_eq_equiv) (on_equiv (λ (p : ℤ × ℤ). p.1) int_eq_equiv))
