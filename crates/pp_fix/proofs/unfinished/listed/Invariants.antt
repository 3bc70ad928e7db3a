use Rattle.std.proofs.Common.{◌≡◌, ◌+◌, ◌≤◌, ◌++◌, drop}
use Rattle.std.specs.Prelude.{vec_len, vec_capacity}
use Rattle.pp_fix.specs.Marked.{marked}
use Rattle.pp_fix.proofs.unfinished.listed.Given as goal

abbrev pub invariant-loop-i : goal.invariant-loop-i
invariant-loop-i l = record {
  rest : l.list.items ++ marked (l.i + 1) (drop l.i l.flags) ≡ marked 1 l.flags;
  few : vec_len l.list ≤ l.i;
  room : vec_capacity l.list ≡ vec_capacity l.initial.list;
}
