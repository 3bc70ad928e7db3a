use Rattle.std.proofs.Common.{◌≡◌, ◌++◌, ◌+◌, ◌-◌, ◌≤◌, length, take, vec_len, vec_capacity}
use Rattle.pp_heap.specs.Values.{shifted}
use Rattle.pp_heap.proofs.heap.push_shifted.Given as goal

abbrev pub invariant-loop-cell : goal.invariant-loop-cell
invariant-loop-cell l = record {
  items : l.out.items ≡ l.initial.out.items ++ shifted l.first (take l.cell-index l.cells);
  room : vec_len l.out + (length l.cells - l.cell-index) ≤ vec_capacity l.out;
}
