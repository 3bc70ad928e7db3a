use Rattle.std.proofs.Common.{ℕ, drop}
use Rattle.pp_algebra.specs.Terms.{Tree}
use Rattle.pp_algebra.specs.Rows.{domain_at}
use Rattle.pp_row.specs.Columns.{sets_of, trees_of}
use Rattle.pp_unify.specs.Covering.{AreBound, Gives, TakesNow}
use Rattle.pp_unify.proofs.cover.is_covered.Given as goal

abbrev pub invariant-loop-k : goal.invariant-loop-k
invariant-loop-k l = record {
  bound : AreBound l.state (domain_at (sets_of l.domains)) l.cover.bound.items;
  back : (s : ℕ → Tree ℕ) → Gives l.state s l.cover.bound.items → TakesNow l.state (domain_at (sets_of l.domains)) s (trees_of (drop l.k l.terms)) (trees_of (drop l.k l.columns)) → TakesNow l.state (domain_at (sets_of l.domains)) s (trees_of l.terms) (trees_of l.columns);
}
