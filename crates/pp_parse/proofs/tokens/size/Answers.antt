use Rattle.std.proofs.Common.{◌+◌, ◌*◌, arith, drop, get_or, refl, ap, sym, ◌∙◌}
use Rattle.pp_language.specs.Kinds.{value_of}
use Rattle.pp_parse.proofs.Digits.{value_on}
use Rattle.pp_parse.proofs.tokens.size.Goals as goal
use Rattle.pp_language.proofs.Digits.{value_grows}

pub overflow_mul-value : goal.overflow_mul-value
overflow_mul-value c = omega (arith, value_grows c.loop-digit.value (drop c.loop-digit.digit-index c.args.digits.now))

pub overflow_add-value : goal.overflow_add-value
overflow_add-value c = omega (arith, value_grows c.loop-digit.value (drop c.loop-digit.digit-index c.args.digits.now), c.type_inv.digits c.loop-digit.digit-index)

pub loop-digit-preserved : goal.loop-digit-preserved
loop-digit-preserved c =
    ap (λ x. value_of (10 * c.loop-digit.value + x) (drop (c.loop-digit.digit-index + 1) c.args.digits.now)) c.from.ensures
    ∙ sym (value_on c.args.digits.now c.loop-digit.digit-index c.loop-digit.value (get_or c.args.digits.now c.loop-digit.digit-index 0) c.loop-digit-test.true refl)
    ∙ c.loop-digit.invariant
