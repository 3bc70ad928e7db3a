use Rattle.pp_clause.proofs.Tops.{next_some, next_none}
use Rattle.pp_clause.proofs.index.next_in.Goals as goal

pub returns-then-at-list : goal.returns-then-at-list
returns-then-at-list c = next_some c.args.list.now c.args.from c.below-at.result c.requires c.below-at.ensures.below c.below-at.ensures.rest c.if-at-list.true

pub returns-else-at-list : goal.returns-else-at-list
returns-else-at-list c = next_none c.args.list.now c.args.from c.below-at.result c.requires c.below-at.ensures.below c.below-at.ensures.rest c.if-at-list.false
