use Rattle.std.proofs.Common.{◌≡◌}
use Rattle.pp_algebra.specs.Numbered.{variables_from}
use Rattle.pp_row.specs.Columns.{trees_of}
use Rattle.pp_store.proofs.rows.variables.Given as goal

abbrev pub invariant-loop-variable : goal.invariant-loop-variable
invariant-loop-variable l = trees_of l.columns.items ≡ variables_from 0 l.variable
