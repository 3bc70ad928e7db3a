-- Terms that are still to be walked, and how much work they are.
use Rattle.std.specs.Prelude.{◌≡◌, ℕ, zero, suc, ◌+◌, ◌*◌, ◌<◌, ◌≤◌, List, [], ◌∷◌, length}
use Rattle.pp_row.specs.declared.cell.Cell.{Cell}
use Rattle.pp_row.specs.Reading.{from}
use Rattle.pp_algebra.specs.Terms.{Tree, Trees, none, more, put_all, count, join, size_all}
use Rattle.pp_algebra.specs.Least.{rest}
use Rattle.pp_heap.specs.declared.spans.Span.{Span}

-- the term at this place ends there
pub record IsEnd (heap : List Cell) (at end : ℕ) : Type 0 where
  pub ends : from heap end ≡ rest (from heap at)
  pub within : end ≤ length heap

abbrev pub take_trees : ℕ → Trees ℕ → Trees ℕ
take_trees zero ts = none
take_trees (suc k) none = none
take_trees (suc k) (more t ts) = more t (take_trees k ts)

abbrev pub span_terms : List Cell → Span → Trees ℕ
span_terms heap s = take_trees s.count (from heap s.at)

-- in the order in which they are walked: the last span first
abbrev pub terms_of : List Cell → List Span → Trees ℕ
terms_of heap [] = none
terms_of heap (s ∷ ss) = join (terms_of heap ss) (span_terms heap s)

-- at least one term, and as many as the span says
pub record IsSpan (heap : List Cell) (s : Span) : Type 0 where
  pub some : 1 ≤ s.count
  pub within : s.at < length heap
  pub enough : s.count ≤ count (from heap s.at)

-- the size under a substitution
abbrev pub sizes : (ℕ → Tree ℕ) → Trees ℕ → ℕ
sizes s ts = size_all (put_all s ts)

-- falls when the number of free variables falls, though the size may be squared
unfoldable pub weight : ℕ → ℕ → ℕ
weight zero n = n
weight (suc k) n = suc (n + weight k (n * n))
