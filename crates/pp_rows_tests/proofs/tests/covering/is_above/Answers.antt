use Rattle.pp_row.proofs.ColumnLists.{same_width}
use Rattle.pp_rows_tests.proofs.tests.covering.is_above.Goals as goal

pub covers-requires : goal.covers-requires
covers-requires g c = record { same_width = same_width c.columns.result.now c.columns-2.result.now c.args.general.now.columns c.args.special.now.columns c.columns.ensures.columns c.columns-2.ensures.columns c.if-columns.true }
