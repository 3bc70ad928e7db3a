-- Worked examples of what is printed.
use Rattle.std.specs.Prelude.{◌≡◌, pos, negsuc, List, [], ◌∷◌, Some, codes}
use Rattle.std.specs.FinSet as set
use Rattle.pp_algebra.specs.Terms.{node, variable, none, more}
use Rattle.pp_algebra.specs.Rows.{Row}
use Rattle.pp_language.specs.Texts.{Text}
use Rattle.pp_language.specs.Printing.{atom_text, term_text, integers_text, row_text}
use Rattle.pp_language.specs.Answers.{no_text, usage_text}
use Rattle.pp_algebra.specs.Examples.{one_or_two, two_or_three}

-- adjacent integers are written as one interval, and an integer alone by itself
abbrev pub AdjacentIntegersJoin : Type 0
AdjacentIntegersJoin = integers_text (negsuc 2 ∷ negsuc 1 ∷ negsuc 0 ∷ pos 5 ∷ []) ≡ codes "[-3..-1, 5]"

abbrev pub SpacedAtomIsQuoted : Type 0
SpacedAtomIsQuoted = atom_text (codes "Hello World") ≡ codes "'Hello World'"

abbrev pub QuoteIsDoubled : Type 0
QuoteIsDoubled = atom_text (codes "it's") ≡ codes "'it''s'"

abbrev pub InfersIsQuoted : Type 0
InfersIsQuoted = atom_text (codes "infers") ≡ codes "'infers'"

abbrev pub PlainAtomIsPlain : Type 0
PlainAtomIsPlain = atom_text (codes "abc") ≡ codes "abc"

-- the names of two symbols
abbrev pub names : List Text
names = codes "f" ∷ codes "a" ∷ []

abbrev pub CompoundIsWritten : Type 0
CompoundIsWritten = term_text names (node 0 (more (node 1 none) (more (variable 3) none))) ≡ codes "f(a,_3)"

-- the row _0, _1 with _0 in {1..2} and _1 in {2..3}
abbrev pub two_ranges : Row
two_ranges = record { columns = more (variable 0) (more (variable 1) none); domains = Some one_or_two ∷ Some two_or_three ∷ [] }

abbrev pub RangesFollowColumns : Type 0
RangesFollowColumns = row_text names two_ranges ≡ codes "_0, _1 | _0 :: [1..2], _1 :: [2..3]"

abbrev pub NoLine : Type 0
NoLine = no_text ≡ codes "no\n"

abbrev pub UsageLine : Type 0
UsageLine = usage_text ≡ codes "usage: propia run | alone | make N\n"
