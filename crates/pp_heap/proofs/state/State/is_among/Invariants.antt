use Rattle.std.proofs.Common.{◌-◌, length, All}
use Rattle.pp_algebra.specs.Terms.{join}
use Rattle.pp_heap.specs.Spans.{IsSpan, span_terms, terms_of}
use Rattle.pp_heap.proofs.Seeing.{IsSofar}
use Rattle.pp_heap.proofs.state.State.is_among.Given as goal

abbrev pub invariant-loop-left : goal.invariant-loop-left
invariant-loop-left l = record {
  all : All (IsSpan l.self.heap.items) l.work.items;
  sofar : IsSofar l.self l.variable l.fn.span.at l.left l.work.items (join (span_terms l.self.heap.items l.fn.span) (terms_of l.self.heap.items l.initial.work.items));
}

abbrev pub decreases-loop-left : goal.decreases-loop-left
decreases-loop-left l = length l.self.heap.items - l.left.at
