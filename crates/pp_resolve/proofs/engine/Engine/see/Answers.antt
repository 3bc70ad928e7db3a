use Rattle.std.proofs.Common.{◌<◌, None, refl, arith}
use Rattle.pp_resolve.proofs.Moving.{goal_over_at}
use Rattle.pp_resolve.proofs.engine.Engine.see.Goals as goal

pub look-requires-clause-over : goal.look-requires-clause-over
look-requires-clause-over c g at =
    let e = c.settle.new.self in
    let h = c.settle.ensures.same.good in
    let w : e.front.rest.from < e.front.rest.to = omega (arith, h.here.rest.from, c.if-rest.false) in
    goal_over_at e None e.front.rest g h w refl at
