use Rattle.std.proofs.Common.{◌≡◌, ◌-◌, ◌≤◌, length}
use Rattle.pp_algebra.specs.Least.{arguments}
use Rattle.pp_row.specs.Reading.{tree_of, from}
use Rattle.pp_algebra.specs.Terms.{join}
use Rattle.pp_row.specs.Columns.{trees_of}
use Rattle.pp_build.proofs.terms.copy_arguments.Given as goal

abbrev pub invariant-loop-start : goal.invariant-loop-start
invariant-loop-start l = record {
  within : l.start ≤ length l.cells;
  are : join (trees_of l.terms.items) (from l.cells l.start) ≡ arguments (tree_of l.cells);
}

abbrev pub decreases-loop-start : goal.decreases-loop-start
decreases-loop-start l = length l.cells - l.start
