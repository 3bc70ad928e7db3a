use Rattle.std.proofs.Common.{rules, ◌≡◌, true, arith}
use Rattle.pp_language.specs.Kinds.{are_digits}
use Rattle.pp_words.proofs.Numbers.{number_below}
use Rattle.pp_words.proofs.number.number.Goals as goal

pub returns-in_err-value : goal.returns-in_err-value
returns-in_err-value c =
    let digits : are_digits c.args.word.now ≡ true = search rules in
    absurd (omega (arith, number_below c.args.word.now digits (omega arith), c.in_err-value.ensures.number))

pub overflow_cast-result : goal.overflow_cast-result
overflow_cast-result c =
    let digits : are_digits c.args.word.now ≡ true = search rules in
    omega (arith, number_below c.args.word.now digits (omega arith), c.in_ok-value.ensures.number)
