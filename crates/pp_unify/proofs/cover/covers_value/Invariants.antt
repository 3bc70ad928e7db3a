use Rattle.std.proofs.Common.{ℕ, All}
use Rattle.pp_algebra.specs.Terms.{Tree, more, none}
use Rattle.pp_algebra.specs.Rows.{domain_at}
use Rattle.pp_row.specs.Columns.{sets_of}
use Rattle.pp_row.specs.Reading.{from}
use Rattle.pp_heap.specs.Values.{value_term}
use Rattle.pp_heap.specs.Spans.{IsSpan, terms_of}
use Rattle.pp_unify.specs.Covering.{AreBound, Gives, TakesNow}
use Rattle.pp_unify.proofs.cover.covers_value.Given as goal

abbrev pub invariant-loop-at : goal.invariant-loop-at
invariant-loop-at l = record {
  all : All (IsSpan l.state.heap.items) l.cover.work.items;
  bound : AreBound l.state (domain_at (sets_of l.domains)) l.cover.bound.items;
  older : (s : ℕ → Tree ℕ) → Gives l.state s l.cover.bound.items → Gives l.state s l.fn.cover.bound.items;
  back : (s : ℕ → Tree ℕ) → Gives l.state s l.cover.bound.items → TakesNow l.state (domain_at (sets_of l.domains)) s (from l.cells l.at) (terms_of l.state.heap.items l.cover.work.items) → TakesNow l.state (domain_at (sets_of l.domains)) s (more l.term none) (more (value_term l.state.heap.items l.fn.value) none);
}
