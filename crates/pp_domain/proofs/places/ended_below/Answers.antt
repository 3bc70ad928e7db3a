use Rattle.std.proofs.Common.{◌+◌, ◌-◌, ◌/◌, ◌<◌, ◌<ℤ◌, ◌≤ℤ◌, pos, refl, arith, length, get_or, to_z, of_z, w64}
use Rattle.std.proofs.lemmas.Int.{ints}
use Rattle.pp_domain.proofs.Positions.{before_more, after_less, end_word}
use Rattle.pp_domain.proofs.places.ended_below.Goals as goal

pub loop-low-preserved-then-intervals-middle : goal.loop-low-preserved-then-intervals-middle
loop-low-preserved-then-intervals-middle c =
    let ps = c.args.intervals.now in
    let middle = c.loop-low.low + (c.loop-low.high - c.loop-low.low) / 2 in
    let within : middle < length ps = omega arith in
    let word = end_word ps middle (pos 0, pos 0) c.requires within in
    let less : (get_or ps middle (pos 0, pos 0)).1 <ℤ to_z w64 (of_z w64 c.args.value) = omega (arith, ints, word, c.if-intervals-middle.true) in
    record {
      order = omega arith;
      bound = c.loop-low.invariant.bound;
      before = before_more ps _ middle _ (pos 0, pos 0) c.requires within refl less;
      after = c.loop-low.invariant.after;
    }

pub loop-low-preserved : goal.loop-low-preserved
loop-low-preserved c =
    let ps = c.args.intervals.now in
    let middle = c.loop-low.low + (c.loop-low.high - c.loop-low.low) / 2 in
    let within : middle < length ps = omega arith in
    let word = end_word ps middle (pos 0, pos 0) c.requires within in
    let reached : to_z w64 (of_z w64 c.args.value) ≤ℤ (get_or ps middle (pos 0, pos 0)).1 = omega (arith, ints, word, c.if-intervals-middle.false) in
    record {
      order = omega arith;
      bound = omega arith;
      before = c.loop-low.invariant.before;
      after = after_less ps _ middle (pos 0, pos 0) c.requires within reached;
    }
