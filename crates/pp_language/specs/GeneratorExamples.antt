-- Worked examples of the generated text, and of what is told of a run.
use Rattle.std.specs.Prelude.{◌≡◌, false, pos, [], ◌∷◌, length, map, Some, codes}
use Rattle.pp_algebra.specs.Terms.{int, node, variable, none, more}
use Rattle.pp_algebra.specs.Rows.{Row}
use Rattle.pp_language.specs.Generator.{number_at, program_lines, adder_line, query_lines, make_lines}
use Rattle.pp_language.specs.Told.{change_line, summary_text, failed_summary_text}
use Rattle.pp_language.specs.Examples.{names, two_ranges}
use Rattle.pp_algebra.specs.Examples.{one_or_two}

-- each number is the one before it, multiplied and with a constant added, without its bits from 2^31 on
abbrev pub FirstNumbers : Type 0
FirstNumbers = map (number_at 10) (0 ∷ 1 ∷ 2 ∷ 3 ∷ []) ≡ 10 ∷ 297746555 ∷ 1849040536 ∷ 736986865 ∷ []

-- 297,746,555 divided by 65,536 is 4,543, which is odd; 1,849,040,536 divided by it is 28,214, which is even
abbrev pub FirstAdder : Type 0
FirstAdder = adder_line 10 1 ≡ codes "A1 = 1, S1 = 0, add(A1,B1,C1,S1,C2) infers most,"

abbrev pub LastAdder : Type 0
LastAdder = adder_line 10 10 ≡ codes "A10 = 1, S10 = 0, add(A10,B10,C10,S10,C11) infers most,"

abbrev pub ProgramLines : Type 0
ProgramLines =
    program_lines
    ≡ codes "add(0,0,0,0,0)." ∷ codes "add(0,0,1,1,0)." ∷ codes "add(0,1,0,1,0)." ∷ codes "add(0,1,1,0,1)."
    ∷ codes "add(1,0,0,1,0)." ∷ codes "add(1,0,1,0,1)." ∷ codes "add(1,1,0,0,1)." ∷ codes "add(1,1,1,1,1)."
    ∷ codes "six(0)." ∷ codes "six(1)." ∷ codes "six(2)." ∷ codes "six(3)." ∷ codes "six(4)." ∷ codes "six(5)."
    ∷ codes "four(P,Q,R,T) :- six(P), six(Q), P #\\= Q, six(R), P #\\= R, Q #\\= R, six(T), P #\\= T, Q #\\= T, R #\\= T."
    ∷ []

abbrev pub QueryOfTwo : Type 0
QueryOfTwo =
    query_lines 2
    ≡ codes "?- C1 = 0,"
    ∷ codes "A1 = 0, S1 = 1, add(A1,B1,C1,S1,C2) infers most,"
    ∷ codes "A2 = 1, S2 = 0, add(A2,B2,C2,S2,C3) infers most,"
    ∷ codes "four(P,Q,R,T) infers most."
    ∷ []

-- seventeen lines and one for each adder
abbrev pub LinesOfThree : Type 0
LinesOfThree = length (make_lines 3) ≡ 20

abbrev pub ChangeIsTold : Type 0
ChangeIsTold = change_line names 1 1 two_ranges ≡ codes "turn 1 goal 1: _0, _1 | _0 :: [1..2], _1 :: [2..3]"

-- an integer, an atom and a variable of two values
abbrev pub half_bound : Row
half_bound = record { columns = more (int (pos 7)) (more (node 0 none) (more (variable 0) none)); domains = Some one_or_two ∷ [] }

abbrev pub SummaryIsWritten : Type 0
SummaryIsWritten = summary_text 12 half_bound false ≡ codes "verdict yes\nturns 12\nbound 2\nsizes 2\n"

abbrev pub FailureIsSummed : Type 0
FailureIsSummed = failed_summary_text 3 ≡ codes "verdict no\nturns 3\nbound 0\nsizes 0\n"
