use Rattle.std.proofs.Common.{◌≡◌, ◌++◌, All}
use Rattle.pp_row.specs.Cells.{cells_of}
use Rattle.pp_heap.specs.Stores.{solution}
use Rattle.pp_heap.specs.Spans.{IsSpan, terms_of, sizes}
use Rattle.pp_unify.specs.Writing.{written}
use Rattle.pp_unify.proofs.writing.resolve.Given as goal

abbrev pub invariant-loop-span : goal.invariant-loop-span
invariant-loop-span l = record {
  all : All (IsSpan l.state.heap.items) l.work.items;
  same : l.out.items ++ written (solution l.state) (terms_of l.state.heap.items l.work.items) ≡ l.fn.out.items ++ cells_of (solution l.state l.number);
}

abbrev pub decreases-loop-span : goal.decreases-loop-span
decreases-loop-span l = sizes (solution l.state) (terms_of l.state.heap.items l.work.items)
