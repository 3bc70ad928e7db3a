-- The worked examples of the generated text hold.
use Rattle.std.proofs.Common.{◌≡◌, ◌++◌, ◌+◌, refl, ap, arith}
use Rattle.std.specs.Prelude.{codes, ℕ}
use Rattle.std.specs.Fmt.{digits, decimal}
use Rattle.std.specs.FinSet as set
use Rattle.pp_language.specs.Texts.{Text}
use Rattle.pp_language.specs.Answers.{lines}
use Rattle.pp_language.specs.Told.{summary_lines}
use Rattle.pp_language.proofs.WorkedExamples.{ranges_follow_columns}
use Rattle.pp_language.specs.GeneratorExamples.{FirstNumbers, FirstAdder, LastAdder, ProgramLines, QueryOfTwo, LinesOfThree, ChangeIsTold, SummaryIsWritten, FailureIsSummed}
use Rattle.pp_algebra.specs.Examples.{one_or_two}

pub first_numbers : FirstNumbers
first_numbers = refl

pub first_adder : FirstAdder
unfolding digits
first_adder = refl

pub last_adder : LastAdder
unfolding digits
last_adder = refl

pub these_program_lines : ProgramLines
unfolding digits
these_program_lines = refl

pub query_of_two : QueryOfTwo
unfolding digits
query_of_two = refl

pub lines_of_three : LinesOfThree
lines_of_three = refl

-- the line of the first turn, whose row is written so
told : Text → Text
told row = codes "turn " ++ decimal 1 ++ codes " goal " ++ decimal 1 ++ codes ": " ++ row

pub change_is_told : ChangeIsTold
unfolding told digits
change_is_told = ap told ranges_follow_columns

-- the summary with sizes of this sum
summed : ℕ → Text
summed sizes = lines (summary_lines (codes "yes") 12 2 sizes)

size_one_or_two : set.len one_or_two ≡ 2
size_one_or_two = grind (arith, set.members)

pub summary_is_written : SummaryIsWritten
unfolding summed digits
summary_is_written = ap (λ n. summed (n + 0)) size_one_or_two

pub failure_is_summed : FailureIsSummed
unfolding digits
failure_is_summed = refl
