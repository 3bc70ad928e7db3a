use Rattle.pp_find.proofs.Taking.{below_one}
use Rattle.pp_find.proofs.parts.is_sole_below.Goals as goal

pub returns-in-One-One : goal.returns-in-One-One
returns-in-One-One c = rw (c.in-One-One.is-0, c.in-One-One.is-1) (below_one c.in-One-One.left c.in-One-One.right c.same_rows.result c.same_rows.ensures)
