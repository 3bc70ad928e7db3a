use Rattle.std.proofs.Common.{◌≡◌, suc, ◌-◌, ◌<◌, take, length, subst, arith}
use Rattle.pp_unify.specs.States.{present}
use Rattle.pp_resolve.specs.Engines.{goal_of, row_of, WaitBefore}
use Rattle.pp_resolve.proofs.Waits.{wait_up_to}
use Rattle.pp_resolve.proofs.Open.{get_slice}
use Rattle.pp_resolve.proofs.engine.Engine.are_still.Goals as goal

pub is_still-requires-clause-below : goal.is_still-requires-clause-below
is_still-requires-clause-below c =
    let e = c.args.self.now in
    let ss = e.history.suspended.goals.items in
    let i = c.args.amount - 1 in
    let w : i < length ss = omega (arith, c.requires.upto, c.requires.good.here.waits.upto, c.if-amount-eq0.false) in
    c.requires.good.here.waits.below i c.index.result.now (get_slice ss i c.index.result.now w c.index.ensures) (omega (arith, c.requires.upto, c.if-amount-eq0.false))

pub returns : goal.returns
returns c t =
    let e = c.args.self.now in
    let ss = e.history.suspended.goals.items in
    let i = c.args.amount - 1 in
    let up : suc i ≡ c.args.amount = omega (arith, c.if-amount-eq0.false) in
    let w : i < length ss = omega (arith, c.requires.upto, c.requires.good.here.waits.upto, c.if-amount-eq0.false) in
    let r = present (take (suc e.front.waits.since) e.history.bindings) in
    subst (WaitBefore e) up
    (wait_up_to e.clauses.now (goal_of e) r (row_of e) ss e.history.suspended.done.items e.front.waits.upto i c.index.result.now c.requires.good.here.suspended.below (get_slice ss i c.index.result.now w c.index.ensures) (omega (arith, up, c.requires.upto)) c.requires.good.here.waits.goals (c.is_still.ensures.still t))
