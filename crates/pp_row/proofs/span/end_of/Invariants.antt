use Rattle.std.proofs.Common.{◌≡◌, ◌+◌, ◌-◌, ◌≤◌, ℕ, length}
use Rattle.pp_algebra.specs.Terms.{Trees, count, join}
use Rattle.pp_algebra.specs.Least.{rest}
use Rattle.pp_row.specs.Reading.{from}
use Rattle.pp_row.proofs.span.end_of.Given as goal

abbrev pub invariant-loop-need : goal.invariant-loop-need
invariant-loop-need l = record {
  within : l.end ≤ length l.cells;
  moved : l.start + 1 ≤ l.need + l.end;
  few : l.need + l.end ≤ length l.cells;
  inside : (ps : Trees ℕ) × (from l.cells l.end ≡ join ps (rest (from l.cells l.start))) × (count ps ≡ l.need);
}

abbrev pub decreases-loop-need : goal.decreases-loop-need
decreases-loop-need l = length l.cells - l.end
