use Rattle.std.proofs.Common.{◌≡◌}
use Rattle.std.specs.VecDeque.{deque_len, deque_capacity}
use Rattle.pp_propagation.specs.Histories.{numbers_from}
use Rattle.pp_wake.proofs.wake.Wake.new.Given as goal

abbrev pub invariant-loop-before : goal.invariant-loop-before
invariant-loop-before l = record {
  numbers : l.queue.items ≡ numbers_from 1 l.before;
  len : deque_len l.queue ≡ l.before;
  room : deque_capacity l.queue ≡ l.goals;
}
