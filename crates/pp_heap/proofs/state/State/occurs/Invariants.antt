use Rattle.std.proofs.Common.{All}
use Rattle.std.specs.Prelude.{◌↔◌}
use Rattle.pp_algebra.specs.Terms.{put, variables, join}
use Rattle.pp_algebra.specs.Covers.{IsIn}
use Rattle.pp_heap.specs.Values.{term_at}
use Rattle.pp_heap.specs.Stores.{solution}
use Rattle.pp_heap.specs.Spans.{IsSpan, span_terms, terms_of, sizes}
use Rattle.pp_heap.specs.Sights.{seen_in}
use Rattle.pp_heap.proofs.state.State.occurs.Given as goal

abbrev pub invariant-loop-work : goal.invariant-loop-work
invariant-loop-work l = record {
  all : All (IsSpan l.self.heap.items) l.work.items;
  some : IsSpan l.self.heap.items l.span;
  same : IsIn l.variable (seen_in l.self (join (span_terms l.self.heap.items l.span) (terms_of l.self.heap.items l.work.items))) ↔ IsIn l.variable (variables (put (solution l.self) (term_at l.self.heap.items l.at)));
}

abbrev pub decreases-loop-work : goal.decreases-loop-work
decreases-loop-work l = sizes (solution l.self) (join (span_terms l.self.heap.items l.span) (terms_of l.self.heap.items l.work.items))
