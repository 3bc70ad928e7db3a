use Rattle.std.proofs.Common.{rules}
use Rattle.pp_find.proofs.Commons.{widths-at, joined-same, joined-stay}
use Rattle.pp_find.proofs.levels.join_last.Goals as goal

pub join-requires : goal.join-requires
join-requires c = record { same_width = widths-at _ _ _ _ _ c.requires.under (search rules) (search rules) c.index.ensures c.index-2.ensures }

pub returns-clause-same : goal.returns-clause-same
returns-clause-same c = rw c.truncate.ensures.items (joined-same c.args.rows.now.items c.len-last.result c.index.result.now c.index-2.result.now c.in_ok-both.both (search rules) (search rules) c.index.ensures c.index-2.ensures c.in_ok-both.ensures.least c.requires.under)

pub returns-clause-under : goal.returns-clause-under
returns-clause-under c = rw c.truncate.ensures.items (joined-stay c.args.rows.now.items c.len-last.result c.index.result.now c.index-2.result.now c.in_ok-both.both (search rules) (search rules) c.index.ensures c.index-2.ensures c.in_ok-both.ensures.least)
