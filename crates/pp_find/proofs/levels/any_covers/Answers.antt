use Rattle.std.proofs.Common.{rules}
use Rattle.pp_find.proofs.Commons.{width-at, covered}
use Rattle.pp_find.proofs.levels.any_covers.Goals as goal

pub covers-requires : goal.covers-requires
covers-requires c = record { same_width = width-at c.args.rows.now c.loop-i.i c.index-rows-i.result c.args.row.now c.requires.under (search rules) (search rules) }

pub returns-then-branch : goal.returns-then-branch
returns-then-branch c = λ _. covered c.args.rows.now c.loop-i.i c.index-rows-i.result c.args.row.now c.requires.under (search rules) (search rules) (c.in_ok-covers.ensures.0 c.if-branch.true)
