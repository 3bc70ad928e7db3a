use Rattle.std.proofs.Common.{◌≡◌, ◌+◌, drop}
use Rattle.pp_language.specs.Told.{bound_columns}
use Rattle.pp_row.specs.Columns.{trees_of}
use Rattle.pp_run.proofs.summary.bound_columns.Given as goal

abbrev pub invariant-loop-column : goal.invariant-loop-column
invariant-loop-column l = l.bound + bound_columns (trees_of (drop l.column-index l.columns)) ≡ bound_columns (trees_of l.columns)
