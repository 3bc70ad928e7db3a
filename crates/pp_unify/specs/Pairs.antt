-- Pairs of terms that are still to be made equal, and how much work they are.
use Rattle.std.specs.Prelude.{◌≡◌, ℕ, ◌+◌, ◌<◌, List, [], ◌∷◌, ◌++◌, All, ◌↔◌}
use Rattle.pp_row.specs.declared.cell.Cell.{Cell}
use Rattle.pp_algebra.specs.Terms.{Tree, Trees, put_all}
use Rattle.pp_heap.specs.declared.spans.Span.{Span}
use Rattle.pp_unify.specs.declared.pair.Pair.{Pair}
use Rattle.pp_heap.specs.Spans.{IsSpan, span_terms, sizes}

abbrev pub left_span : Pair → Span
left_span p = record { at = p.left; count = p.count }

abbrev pub right_span : Pair → Span
right_span p = record { at = p.right; count = p.count }

pub record IsPair (heap : List Cell) (p : Pair) : Type 0 where
  pub left : IsSpan heap (left_span p)
  pub right : IsSpan heap (right_span p)

-- s makes the two terms of each pair equal
abbrev pub AllEqual : List Cell → (ℕ → Tree ℕ) → List Pair → Type 0
AllEqual heap s [] = Unit {0}
AllEqual heap s (p ∷ ps) = (put_all s (span_terms heap (left_span p)) ≡ put_all s (span_terms heap (right_span p))) × AllEqual heap s ps

abbrev pub both_sizes : List Cell → (ℕ → Tree ℕ) → List Pair → ℕ
both_sizes heap s [] = 0
both_sizes heap s (p ∷ ps) = (sizes s (span_terms heap (left_span p)) + sizes s (span_terms heap (right_span p))) + both_sizes heap s ps

-- the work has these terms pairwise more
pub record Pushes (heap : List Cell) (before now : List Pair) (ls rs : Trees ℕ) : Type 0 where
  pub all : All (IsPair heap) now
  pub equal : (s : ℕ → Tree ℕ) → AllEqual heap s now ↔ (AllEqual heap s before × (put_all s ls ≡ put_all s rs))
  pub sizes : (s : ℕ → Tree ℕ) → both_sizes heap s now ≡ both_sizes heap s before + (sizes s ls + sizes s rs)

-- the work has the arguments of the pair's first terms and the terms after them more, in place of the pair
pub record Opens (heap : List Cell) (before now : List Pair) (p : Pair) : Type 0 where
  pub all : All (IsPair heap) now
  pub equal : (s : ℕ → Tree ℕ) → AllEqual heap s now ↔ AllEqual heap s (before ++ p ∷ [])
  pub sizes : (s : ℕ → Tree ℕ) → both_sizes heap s now < both_sizes heap s (before ++ p ∷ [])
