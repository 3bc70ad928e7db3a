use Rattle.std.proofs.Common.{All, ◌≡◌}
use Rattle.pp_algebra.specs.Terms.{put}
use Rattle.pp_heap.specs.Values.{term_at}
use Rattle.pp_heap.specs.Stores.{solution}
use Rattle.pp_heap.specs.Spans.{weight}
use Rattle.pp_unify.specs.Pairs.{IsPair, AllEqual, both_sizes}
use Rattle.pp_unify.proofs.cover.are_same.Given as goal

abbrev pub invariant-loop-pair : goal.invariant-loop-pair
invariant-loop-pair l = record {
  all : All (IsPair l.state.heap.items) l.work.items;
  same : AllEqual l.state.heap.items (solution l.state) l.work.items → put (solution l.state) (term_at l.state.heap.items l.left) ≡ put (solution l.state) (term_at l.state.heap.items l.right);
}

abbrev pub decreases-loop-pair : goal.decreases-loop-pair
decreases-loop-pair l = weight 0 (both_sizes l.state.heap.items (solution l.state) l.work.items)
