use Rattle.std.proofs.Common.{◌≡◌, suc, ◌+◌, ap, sym, ◌∙◌, arith}
use Rattle.pp_algebra.specs.Terms.{count}
use Rattle.pp_algebra.specs.Least.{first, rest}
use Rattle.pp_row.specs.Reading.{forest, from}
use Rattle.pp_goal.specs.Arguments.{after}
use Rattle.pp_goal.proofs.Places.{column-after, count-after}
use Rattle.pp_goal.proofs.arguments.place_of.Goals as goal
use Rattle.pp_row.proofs.Next.{some_inside}

pub loop-preserved : goal.loop-preserved
loop-preserved c =
    let ts = forest c.args.cells.now in
    let k = c.loop.counter in
    let z : suc k ≡ k + 1 = omega arith in
    let e : from c.args.cells.now c.end_of-at.result ≡ after (k + 1) ts = c.end_of-at.ensures.ends ∙ ap rest c.loop.invariant.here ∙ ap (λ j. after j ts) z in
    let n = count-after (k + 1) ts (omega (arith, c.requires.place, c.loop-test.true)) in
    record { here = e; within = some_inside c.args.cells.now c.end_of-at.result (omega (arith, n, ap count e, c.requires.place, c.loop-test.true)) }

pub returns-clause-term : goal.returns-clause-term
returns-clause-term c =
    let ts = forest c.args.cells.now in
    let e : c.loop.counter ≡ c.args.place = omega (arith, c.loop-test.false, c.loop.auto.counter-end) in
    ap first c.loop.invariant.here ∙ ap (λ k. first (after k ts)) e ∙ sym (column-after c.args.place ts c.requires.place)
