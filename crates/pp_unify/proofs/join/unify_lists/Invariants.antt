use Rattle.std.proofs.Common.{◌≡◌, ◌-◌, All, length}
use Rattle.pp_algebra.specs.Terms.{count}
use Rattle.pp_row.specs.Reading.{from}
use Rattle.pp_heap.specs.Spans.{IsSpan}
use Rattle.pp_unify.specs.Joining.{IsOnward, IsWider}
use Rattle.pp_unify.specs.Taking.{left_of}
use Rattle.pp_unify.proofs.Walking.{Reaches}
use Rattle.pp_unify.proofs.join.unify_lists.Given as goal

abbrev pub invariant-loop-next : goal.invariant-loop-next
invariant-loop-next l = record {
  onward : IsOnward l.fn.state l.state;
  wider : IsWider l.fn.state l.state l.base l.head;
  all : All (IsSpan l.state.heap.items) l.work.items;
  counts : count (left_of l.state l.work.items l.first l.goal l.at) ≡ count (from l.head l.next);
  same : Reaches l.fn.state l.state l.work.items l.first l.goal l.at l.base l.head l.next;
}

abbrev pub decreases-loop-next : goal.decreases-loop-next
decreases-loop-next l = length l.head - l.next
