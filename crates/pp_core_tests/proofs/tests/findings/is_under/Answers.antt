use Rattle.pp_row.proofs.ColumnLists.{same_width}
use Rattle.pp_core_tests.proofs.tests.findings.is_under.Goals as goal

pub covers-requires : goal.covers-requires
covers-requires g c = record { same_width = same_width c.columns.result.now c.columns-2.result.now c.args.call.now.columns c.args.row.now.columns c.columns.ensures.columns c.columns-2.ensures.columns c.if-columns.true }
