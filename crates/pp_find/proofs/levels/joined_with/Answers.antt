use Rattle.std.proofs.Common.{rules}
use Rattle.pp_find.proofs.Commons.{rest-under, rest-still, width-at}
use Rattle.pp_find.proofs.levels.joined_with.Goals as goal

pub join_rows-requires : goal.join_rows-requires
join_rows-requires c = record { under = rest-under c.args.row c.args.rows.now.items c.requires.under }

pub join-requires : goal.join-requires
join-requires c = record { same_width = width-at c.join_rows.new.rows.items 0 c.index.result.now c.args.row (rest-still c.args.row c.args.rows.now.items c.join_rows.new.rows.items c.join_rows.ensures.under c.requires.under) (search rules) c.index.ensures }
