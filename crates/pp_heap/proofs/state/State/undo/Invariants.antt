use Rattle.std.proofs.Common.{length, ◌≤◌}
use Rattle.pp_heap.specs.Soundness.{IsGood, IsKept}
use Rattle.pp_heap.proofs.state.State.undo.Given as goal

abbrev pub invariant-loop-self : goal.invariant-loop-self
invariant-loop-self l = record {
  good : IsGood l.self;
  kept : IsKept l.self l.initial.self;
  within : l.mark ≤ length l.self.trail.items;
}

abbrev pub decreases-loop-self : goal.decreases-loop-self
decreases-loop-self l = length l.self.trail.items
