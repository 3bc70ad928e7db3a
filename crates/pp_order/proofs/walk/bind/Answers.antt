use Rattle.std.proofs.Common.{refl}
use Rattle.pp_order.proofs.Walking.{same_span}
use Rattle.pp_order.proofs.walk.bind.Goals as goal

pub returns-then-place-len-clause-old : goal.returns-then-place-len-clause-old
returns-then-place-len-clause-old c = λ l. (refl, same_span c.args.bound.now.items c.as_slice.result.now c.args.variable _ c.args.term.now c.eq.result c.requires.bound.whole l c.requires.term c.as_slice.ensures c.eq.ensures)
