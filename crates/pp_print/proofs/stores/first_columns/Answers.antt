use Rattle.pp_print.proofs.StoreLines.{first-columns}
use Rattle.pp_print.proofs.stores.first_columns.Goals as goal

pub returns : goal.returns
returns c = first-columns c.args.count c.min.result c.args.columns.now c.min.ensures
