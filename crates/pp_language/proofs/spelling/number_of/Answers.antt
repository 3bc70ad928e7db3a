use Rattle.std.proofs.Common.{arith, ◌+◌}
use Rattle.pp_language.proofs.Digits.{value_of-take_more, value_of-take-le}
use Rattle.pp_language.proofs.spelling.number_of.Goals as goal

pub returns-then-value-gt-GREATEST_SIZE : goal.returns-then-value-gt-GREATEST_SIZE
returns-then-value-gt-GREATEST_SIZE c =
    let v = value_of-take_more c.args.digits.now c.loop-digit.digit-index 0 c.loop-digit-test.true in
    let w = value_of-take-le c.args.digits.now (c.loop-digit.digit-index + 1) in
    record { number = omega (arith, c.from.ensures, c.loop-digit.invariant.0); in_range = omega (arith, c.from.ensures, c.loop-digit.invariant.0) }

pub loop-digit-preserved : goal.loop-digit-preserved
loop-digit-preserved c =
    let v = value_of-take_more c.args.digits.now c.loop-digit.digit-index 0 c.loop-digit-test.true in
    (omega (arith, c.from.ensures, c.loop-digit.invariant.0), omega arith)
