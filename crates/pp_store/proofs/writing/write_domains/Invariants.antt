use Rattle.std.proofs.Common.{◌≡◌, ℕ, ◌≤◌, length, take}
use Rattle.pp_algebra.specs.Rows.{domain_at}
use Rattle.pp_row.specs.Columns.{sets_of}
use Rattle.pp_store.specs.Written.{written}
use Rattle.pp_store.proofs.writing.write_domains.Given as goal

abbrev pub invariant-loop-i : goal.invariant-loop-i
invariant-loop-i l = record {
  count : length l.domains.items ≡ length l.initial.domains.items;
  written : (v : ℕ) → domain_at (sets_of l.domains.items) v ≡ written (take l.i l.places) (domain_at (sets_of l.initial.more.items)) (domain_at (sets_of l.initial.domains.items)) v;
  many : length l.more.items ≡ length l.places;
  left : (k : ℕ) → l.i ≤ k → domain_at (sets_of l.more.items) k ≡ domain_at (sets_of l.initial.more.items) k;
}
