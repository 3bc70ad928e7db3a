use Rattle.pp_print.proofs.RowTexts.{columns_end}
use Rattle.pp_print.proofs.rows.write_columns.Goals as goal

pub returns : goal.returns
returns c = columns_end c.args.names.now c.args.columns.now c.loop-column.column-index _ _ c.loop-column.out.items _ c.loop-column-test.false c.as_slice-separator.ensures c.loop-column.invariant
