use Rattle.std.proofs.Common.{ℕ, ◌<◌, ◌≤◌, length}
use Rattle.pp_algebra.specs.Covers.{IsIn}
use Rattle.pp_algebra.specs.Terms.{variables}
use Rattle.pp_store.specs.Occurring.{Stands}
use Rattle.pp_store.specs.Patterns.{column_at}
use Rattle.pp_store.proofs.pattern.places_of.Given as goal

abbrev pub invariant-loop-i : goal.invariant-loop-i
invariant-loop-i l = record {
  count : l.count ≤ length l.places;
  placed : (k v : ℕ) → k < l.i → IsIn v (variables (column_at l.columns k)) → Stands l.places v k;
  within : (v k : ℕ) → Stands l.places v k → k < length l.columns;
}
