use Rattle.std.proofs.Common.{ℕ, ◌<◌, get_or}
use Rattle.pp_algebra.specs.Covers.{IsIn}
use Rattle.pp_algebra.specs.Terms.{variables}
use Rattle.pp_store.specs.Occurring.{Stands, HasMore}
use Rattle.pp_store.specs.Patterns.{column_at}
use Rattle.pp_store.proofs.pattern.add_all.Given as goal

abbrev pub invariant-loop-i : goal.invariant-loop-i
invariant-loop-i l = record {
  more : HasMore l.numbers l.initial.places l.places;
  added : (j v : ℕ) → j < l.i → IsIn v (variables (column_at l.terms j)) → Stands l.places v (get_or l.numbers j 0);
}
