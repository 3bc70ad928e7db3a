use Rattle.std.proofs.Common.{All, ◌≡◌, ℕ}
use Rattle.std.specs.Prelude.{◌↔◌}
use Rattle.pp_algebra.specs.Terms.{Tree, put}
use Rattle.pp_algebra.specs.Rows.{Domains}
use Rattle.pp_heap.specs.Values.{term_at}
use Rattle.pp_heap.specs.Stores.{store_of, solution}
use Rattle.pp_heap.specs.Agreement.{Agrees, AllWide}
use Rattle.pp_heap.specs.Outcomes.{IsLater, frees}
use Rattle.pp_heap.specs.Spans.{weight}
use Rattle.pp_unify.specs.Pairs.{IsPair, AllEqual, both_sizes}
use Rattle.pp_unify.proofs.unify.unify_arguments.Given as goal

abbrev pub invariant-loop-pair : goal.invariant-loop-pair
invariant-loop-pair l = record {
  later : IsLater l.initial.state l.state;
  all : All (IsPair l.state.heap.items) l.work.items;
  same : (ds : Domains ℕ) (s : ℕ → Tree ℕ) → AllWide ds → (Agrees (store_of l.state) ds s × AllEqual l.state.heap.items s l.work.items) ↔ (Agrees (store_of l.initial.state) ds s × (put s (term_at l.initial.state.heap.items l.left) ≡ put s (term_at l.initial.state.heap.items l.right)));
}

abbrev pub decreases-loop-pair : goal.decreases-loop-pair
decreases-loop-pair l = weight (frees l.state.slots.items) (both_sizes l.state.heap.items (solution l.state) l.work.items)
