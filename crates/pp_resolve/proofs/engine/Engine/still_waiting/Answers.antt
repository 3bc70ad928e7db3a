use Rattle.std.proofs.Common.{◌<◌, subst, sym, arith}
use Rattle.pp_resolve.specs.Engines.{WaitBefore}
use Rattle.pp_resolve.proofs.engine.Engine.still_waiting.Goals as goal
use Rattle.pp_resolve.proofs.engine.Engine.still_waiting.Goals.{then-are_still, else-are_still}

pub loop-low-preserved : goal.loop-low-preserved
loop-low-preserved c =
    let i = c.loop-low.invariant in
    let w : c.loop-low.low < c.loop-low.high = c.loop-low-test.true in
    let above = i.above w in
    let within = i.within w in
    elim c.if-are_still.branch [
      | then-are_still b ↦ record {
        order = omega (arith, b.low-is, b.high-is, within);
        upto = omega (arith, b.high-is, i.upto);
        above = λ l. omega (arith, l);
        within = λ l. omega (arith, l);
        wait = subst (WaitBefore c.args.self.now) (sym b.low-is) (c.are_still.ensures b.if-are_still.true);
      }
      | else-are_still b ↦ record {
        order = omega (arith, b.low-is, b.high-is, above);
        upto = omega (arith, b.high-is, i.upto, within);
        above = λ l. omega (arith, l);
        within = λ l. omega (arith, l);
        wait = subst (WaitBefore c.args.self.now) (sym b.low-is) i.wait;
      }
    ]

pub loop-low-smaller : goal.loop-low-smaller
loop-low-smaller c =
    let i = c.loop-low.invariant in
    let w : c.loop-low.low < c.loop-low.high = c.loop-low-test.true in
    let above = i.above w in
    let within = i.within w in
    elim c.if-are_still.branch [
      | then-are_still b ↦ omega (arith, b.low-is, b.high-is, above, within, w)
      | else-are_still b ↦ omega (arith, b.low-is, b.high-is, above, within, w)
    ]
