use Rattle.std.proofs.Common.{◌≡◌, take}
use Rattle.std.specs.Prelude.{nat_eq}
use Rattle.pp_algebra.specs.Canon.{firsts}
use Rattle.pp_row.specs.Cells.{variables_among}
use Rattle.pp_store.proofs.rows.take_variables.Given as goal

abbrev pub invariant-loop-cell : goal.invariant-loop-cell
invariant-loop-cell l = l.names.keys ≡ firsts nat_eq l.initial.names.keys (variables_among (take l.cell-index l.cells))
