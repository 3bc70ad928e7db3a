use Rattle.pp_row.proofs.ColumnLists.{same_width}
use Rattle.pp_rows_tests.proofs.tests.joins.joined.Goals as goal

pub join-requires : goal.join-requires
join-requires g c = record { same_width = same_width c.columns.result.now c.columns-2.result.now c.args.one.now.columns c.args.other.now.columns c.columns.ensures.columns c.columns-2.ensures.columns c.if-columns.true }
