use Rattle.std.proofs.Common.{◌≡◌, ◌≤◌, ◌+◌, length, option_map, drop, Some}
use Rattle.pp_algebra.specs.Terms.{count}
use Rattle.pp_row.specs.Reading.{stack}
use Rattle.pp_row.proofs.term.complete_terms.Given as goal

abbrev pub invariant-loop-i : goal.invariant-loop-i
invariant-loop-i l = record {
  within : l.i ≤ length l.cells;
  few : l.complete + l.i ≤ length l.cells;
  counted : option_map count (stack (drop l.i l.cells)) ≡ Some l.complete;
}

abbrev pub decreases-loop-i : goal.decreases-loop-i
decreases-loop-i l = l.i
