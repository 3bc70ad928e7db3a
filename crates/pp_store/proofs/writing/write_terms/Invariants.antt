use Rattle.std.proofs.Common.{◌≡◌, ℕ, ◌<◌, ◌≤◌, length, take}
use Rattle.pp_store.specs.Patterns.{column_at}
use Rattle.pp_store.specs.Written.{written}
use Rattle.pp_store.proofs.writing.write_terms.Given as goal

abbrev pub invariant-loop-i : goal.invariant-loop-i
invariant-loop-i l = record {
  count : length l.columns.items ≡ length l.initial.columns.items;
  written : (k : ℕ) → k < length l.initial.columns.items → column_at l.columns.items k ≡ written (take l.i l.places) (column_at l.initial.terms.items) (column_at l.initial.columns.items) k;
  many : length l.terms.items ≡ length l.places;
  left : (k : ℕ) → l.i ≤ k → column_at l.terms.items k ≡ column_at l.initial.terms.items k;
}
