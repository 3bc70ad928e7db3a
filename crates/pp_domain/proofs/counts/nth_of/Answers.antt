use Rattle.std.proofs.Common.{◌+◌, pos, arith, sym, ◌∙◌, ap, drop, get_or, Some, ◌<◌, ◌≤◌, ◌-◌}
use Rattle.std.specs.Prelude.{slice_get}
use Rattle.std.proofs.lemmas.Int.{ints}
use Rattle.pp_domain.specs.Intervals.{integers, count}
use Rattle.pp_domain.proofs.Members.{count_is}
use Rattle.pp_domain.proofs.Positions.{begin_integer, end_integer, upward_words, count_words, within, begin_word}
use Rattle.pp_domain.proofs.Ascending.{get_here, get_later, get_past_all}
use Rattle.pp_domain.proofs.counts.nth_of.Goals as goal

pub count_of-count-requires-clause-low : goal.count_of-count-requires-clause-low
count_of-count-requires-clause-low c = begin_integer _ _ _ c.requires c.loop-low-test.true

pub count_of-count-requires-clause-high : goal.count_of-count-requires-clause-high
count_of-count-requires-clause-high c = end_integer _ _ _ c.requires c.loop-low-test.true

pub count_of-count-requires-clause-some : goal.count_of-count-requires-clause-some
count_of-count-requires-clause-some c = upward_words _ _ _ c.requires c.loop-low-test.true

pub overflow_cast-result : goal.overflow_cast-result
overflow_cast-result c =
    let ps = c.args.intervals.now in
    let n = c.loop-low.low-index in
    let e = count_words ps n (pos 0, pos 0) c.requires c.loop-low-test.true in
    let w = within ps _ _ n (pos 0, pos 0) c.requires.apart c.loop-low-test.true in
    let k = count_is (get_or ps n (pos 0, pos 0)).0 (get_or ps n (pos 0, pos 0)).1 w.upward in
    let less : c.loop-low.left < 2_000_000_000_002 = omega (arith, ints, e, w.above, w.below, k, c.count_of-count.ensures, c.if-left-count.true) in
    record { sfits = omega arith }

pub overflow_add-result : goal.overflow_add-result
overflow_add-result c =
    let ps = c.args.intervals.now in
    let n = c.loop-low.low-index in
    let e = count_words ps n (pos 0, pos 0) c.requires c.loop-low-test.true in
    let w = within ps _ _ n (pos 0, pos 0) c.requires.apart c.loop-low-test.true in
    let k = count_is (get_or ps n (pos 0, pos 0)).0 (get_or ps n (pos 0, pos 0)).1 w.upward in
    let b = begin_word ps n (pos 0, pos 0) c.requires c.loop-low-test.true in
    omega (arith, ints, e, w.above, w.below, k, b, c.count_of-count.ensures, c.if-left-count.true)

pub returns-then-left-count : goal.returns-then-left-count
returns-then-left-count c =
    let ps = c.args.intervals.now in
    let n = c.loop-low.low-index in
    let e = count_words ps n (pos 0, pos 0) c.requires c.loop-low-test.true in
    let w = within ps _ _ n (pos 0, pos 0) c.requires.apart c.loop-low-test.true in
    let k = count_is (get_or ps n (pos 0, pos 0)).0 (get_or ps n (pos 0, pos 0)).1 w.upward in
    let b = begin_word ps n (pos 0, pos 0) c.requires c.loop-low-test.true in
    let less : c.loop-low.left < count (get_or ps n (pos 0, pos 0)).0 (get_or ps n (pos 0, pos 0)).1 = omega (arith, e, c.count_of-count.ensures, c.if-left-count.true) in
    ap Some (omega (arith, ints, w.above, w.below, k, b, less))
    ∙ sym (get_here ps n c.loop-low.left (pos 0, pos 0) c.loop-low-test.true less)
    ∙ c.loop-low.invariant

pub loop-low-preserved : goal.loop-low-preserved
loop-low-preserved c =
    let ps = c.args.intervals.now in
    let n = c.loop-low.low-index in
    let e = count_words ps n (pos 0, pos 0) c.requires c.loop-low-test.true in
    let more : count (get_or ps n (pos 0, pos 0)).0 (get_or ps n (pos 0, pos 0)).1 ≤ c.loop-low.left = omega (arith, e, c.count_of-count.ensures, c.if-left-count.false) in
    ap (λ m. slice_get (integers (drop (n + 1) ps)) (c.loop-low.left - m)) (c.count_of-count.ensures ∙ e)
    ∙ sym (get_later ps n c.loop-low.left (pos 0, pos 0) c.loop-low-test.true more)
    ∙ c.loop-low.invariant

pub returns : goal.returns
returns c = sym (get_past_all c.args.intervals.now c.loop-low.low-index c.loop-low.left c.loop-low-test.false) ∙ c.loop-low.invariant
