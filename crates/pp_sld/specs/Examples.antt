-- Worked examples of the built-ins' decisions and of verdicts.
use Rattle.std.specs.Prelude.{◌≡◌, ℕ, pos, List, [], ◌∷◌, Some, None}
use Rattle.pp_algebra.specs.Terms.{variable}
use Rattle.pp_algebra.specs.Rows.{Row}
use Rattle.pp_algebra.specs.Examples.{number, atom_a, one_column, row, one_or_two}
use Rattle.pp_sld.specs.BuiltIns.{Test, less, equal, plus, times, indomain, wait, fail, hold, split, bind, decide}
use Rattle.pp_algebra.specs.Givens.{Given, integer, ranged, free, other}
use Rattle.pp_sld.specs.Verdicts as verdicts
use Rattle.pp_sld.specs.Verdicts.{Mode, most, unique, consistent, same, nothing, unfinished, narrow, verdict}

abbrev pub given : ℕ → Given
given n = integer (pos n)

-- the product of 1000000 and 1000001 lies beyond the greatest integer: the goal fails, whatever its third argument is
abbrev pub ProductBeyondFails : Type 0
ProductBeyondFails =
    (decide times (given 1000000 ∷ given 1000001 ∷ free ∷ []) ≡ fail)
    × (decide times (given 1000000 ∷ given 1000001 ∷ ranged ∷ []) ≡ fail)
    × (decide times (given 1000000 ∷ given 1000001 ∷ given 1000001000000 ∷ []) ≡ fail)

-- that of 1000000 and 1000000 is the greatest integer
abbrev pub ProductBinds : Type 0
ProductBinds = decide times (given 1000000 ∷ given 1000000 ∷ free ∷ []) ≡ bind 2 (pos 1000000000000)

-- `times` binds its third argument alone
abbrev pub FactorWaits : Type 0
FactorWaits = decide times (given 2 ∷ free ∷ given 6 ∷ []) ≡ wait

-- `plus` binds the third of its arguments, wherever it stands, and waits where two are unknown
abbrev pub PlusBindsTheThird : Type 0
PlusBindsTheThird =
    (decide plus (given 2 ∷ given 3 ∷ free ∷ []) ≡ bind 2 (pos 5))
    × (decide plus (given 2 ∷ ranged ∷ given 5 ∷ []) ≡ bind 1 (pos 3))
    × (decide plus (free ∷ given 3 ∷ given 5 ∷ []) ≡ bind 0 (pos 2))
    × (decide plus (given 2 ∷ free ∷ free ∷ []) ≡ wait)

abbrev pub PlusTests : Type 0
PlusTests = (decide plus (given 2 ∷ given 3 ∷ given 5 ∷ []) ≡ hold) × (decide plus (given 2 ∷ given 3 ∷ given 6 ∷ []) ≡ fail)

-- an atom or compound among the arguments fails, also where a variable would wait
abbrev pub AtomFails : Type 0
AtomFails = (t : Test) → (decide t (free ∷ other ∷ []) ≡ fail) × (decide t (other ∷ free ∷ free ∷ []) ≡ fail)

-- `indomain` splits a variable of a finite domain, holds of an integer and waits at a variable of domain `any`
abbrev pub IndomainSplits : Type 0
IndomainSplits = (decide indomain (ranged ∷ []) ≡ split) × (decide indomain (given 7 ∷ []) ≡ hold) × (decide indomain (free ∷ []) ≡ wait)

-- a comparison waits at a variable, whatever its domain
abbrev pub ComparisonWaits : Type 0
ComparisonWaits = (decide less (given 1 ∷ ranged ∷ []) ≡ wait) × (decide less (given 1 ∷ given 2 ∷ []) ≡ hold) × (decide less (given 2 ∷ given 2 ∷ []) ≡ fail) × (decide equal (free ∷ free ∷ []) ≡ wait)

-- the call (_0), and the answers 1, 2 and the atom a
abbrev pub any_call : Row
any_call = row (one_column (variable 0)) (None ∷ [])

abbrev pub answer_one : Row
answer_one = row (one_column (number 1)) []

abbrev pub answer_two : Row
answer_two = row (one_column (number 2)) []

abbrev pub answer_atom : Row
answer_atom = row (one_column atom_a) []

-- `most` narrows to what the answers have in common, where each loose end has it too
abbrev pub MostNarrows : Type 0
MostNarrows =
    (verdict most any_call (answer_one ∷ answer_two ∷ []) [] ≡ narrow (row (one_column (variable 0)) (Some one_or_two ∷ [])))
    × (verdict most any_call (answer_one ∷ []) (answer_one ∷ []) ≡ narrow answer_one)

-- where a loose end has it not, the goal is unfinished
abbrev pub MostIsUnfinished : Type 0
MostIsUnfinished = verdict most any_call (answer_one ∷ []) (answer_two ∷ []) ≡ unfinished

-- where the answers have no more in common than the call says, the loose ends do not matter
abbrev pub MostIsSame : Type 0
MostIsSame = (loose : List Row) → verdict most any_call (answer_one ∷ answer_atom ∷ []) loose ≡ same

-- `unique` narrows to the only answer, however often it is found; two that differ say nothing
abbrev pub UniqueNarrows : Type 0
UniqueNarrows =
    (verdict unique any_call (answer_one ∷ answer_one ∷ []) [] ≡ narrow answer_one)
    × (verdict unique any_call (answer_one ∷ []) (answer_one ∷ []) ≡ unfinished)
    × ((loose : List Row) → verdict unique any_call (answer_one ∷ answer_two ∷ []) loose ≡ nothing)

-- `consistent` narrows nothing: an answer is enough
abbrev pub ConsistentSaysNothing : Type 0
ConsistentSaysNothing =
    ((loose : List Row) → verdict consistent any_call (answer_one ∷ []) loose ≡ nothing)
    × (verdict consistent any_call [] (answer_one ∷ []) ≡ unfinished)

-- with no answer and no loose end the goal fails, in each mode
abbrev pub NoLeafFails : Type 0
NoLeafFails = (m : Mode) → verdict m any_call [] [] ≡ verdicts.fail
