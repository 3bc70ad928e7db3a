use Rattle.pp_row.proofs.ColumnLists.{same_width}
use Rattle.pp_bench.proofs.is_covered.Goals as goal

pub covers-requires : goal.covers-requires
covers-requires c = record { same_width = same_width c.columns.result.now c.columns-2.result.now c.args.general.now.columns c.args.special.now.columns c.columns.ensures.columns c.columns-2.ensures.columns c.if-columns.true }
