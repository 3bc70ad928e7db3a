use Rattle.std.proofs.Common.{pos, arith, ap, length}
use Rattle.pp_domain.proofs.Positions.{begin_integer, end_integer, upward_words, count_words}
use Rattle.pp_domain.proofs.Ascending.{length_at, integers_few, integers_past}
use Rattle.pp_domain.proofs.counts.total.Goals as goal

pub count_of-total-requires-clause-low : goal.count_of-total-requires-clause-low
count_of-total-requires-clause-low c = begin_integer _ _ _ c.requires c.loop-low-test.true

pub count_of-total-requires-clause-high : goal.count_of-total-requires-clause-high
count_of-total-requires-clause-high c = end_integer _ _ _ c.requires c.loop-low-test.true

pub count_of-total-requires-clause-some : goal.count_of-total-requires-clause-some
count_of-total-requires-clause-some c = upward_words _ _ _ c.requires c.loop-low-test.true

pub overflow_add-total : goal.overflow_add-total
overflow_add-total c =
    let e = count_words c.args.intervals.now c.loop-low.low-index (pos 0, pos 0) c.requires c.loop-low-test.true in
    let l = length_at c.args.intervals.now c.loop-low.low-index (pos 0, pos 0) c.loop-low-test.true in
    let f = integers_few c.args.intervals.now c.requires in
    omega (arith, e, l, f, c.count_of-total.ensures)

pub loop-low-preserved : goal.loop-low-preserved
loop-low-preserved c =
    let e = count_words c.args.intervals.now c.loop-low.low-index (pos 0, pos 0) c.requires c.loop-low-test.true in
    let l = length_at c.args.intervals.now c.loop-low.low-index (pos 0, pos 0) c.loop-low-test.true in
    omega (arith, e, l, c.count_of-total.ensures)

pub returns : goal.returns
returns c =
    let e = ap length (integers_past c.args.intervals.now c.loop-low.low-index c.loop-low-test.false) in
    omega (arith, e)
