use Rattle.std.proofs.Common.{None, ◌≡◌, ◌++◌, ◌+◌, ◌≤◌, replicate, vec_len, vec_capacity}
use Rattle.pp_heap.specs.declared.state.Slot.TheVariants.{Free}
use Rattle.pp_heap.proofs.heap.push_free.Given as goal

abbrev pub invariant-loop-left : goal.invariant-loop-left
invariant-loop-left l = record {
  items : l.slots.items ++ replicate l.left (Free None) ≡ l.initial.slots.items ++ replicate l.fn.count (Free None);
  room : vec_len l.slots + l.left ≤ vec_capacity l.slots;
}

abbrev pub decreases-loop-left : goal.decreases-loop-left
decreases-loop-left l = l.left
