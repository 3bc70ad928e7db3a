use Rattle.std.proofs.Common.{◌≡◌, ℕ, ◌<◌, length}
use Rattle.pp_algebra.specs.Rows.{Domains}
use Rattle.pp_algebra.specs.Terms.{Tree}
use Rattle.pp_heap.specs.Stores.{store_of}
use Rattle.pp_heap.specs.Agreement.{Agrees}
use Rattle.pp_heap.proofs.state.State.chain_end.Given as goal

abbrev pub invariant-loop-next : goal.invariant-loop-next
invariant-loop-next l = record {
  within : l.end < length l.self.slots.items;
  same : (ds : Domains ℕ) (s : ℕ → Tree ℕ) → Agrees (store_of l.self) ds s → s l.variable ≡ s l.end;
}

abbrev pub decreases-loop-next : goal.decreases-loop-next
decreases-loop-next l = l.end
