-- Worked examples of solving: one for each way in which an item is solved.
use Rattle.std.specs.Prelude.{ℕ, pos, [], ◌∷◌, Some, None}
use Rattle.std.specs.FinSet as set
use Rattle.pp_algebra.specs.Terms.{variable}
use Rattle.pp_algebra.specs.Rows.{Domain, Domains, Row, domain_at}
use Rattle.pp_algebra.specs.Solve.{Item, equation, membership, IsSolved, HasNone}
use Rattle.pp_algebra.specs.Stages.{pattern}
use Rattle.pp_algebra.specs.Examples.{number, atom_a, atom_b, f_of, one_column, two_columns, row, one_or_two, two_or_three, all_any}

-- the domain {3}, which acts as its integer
abbrev pub only_three : Domain
only_three = set.from_list (pos 3 ∷ [])

-- one column _0, and one item
abbrev pub One : Domains ℕ → Item ℕ → Row → Type 0
One ds i r = IsSolved (pattern (one_column (variable 0)) ds) (i ∷ []) r

abbrev pub OneHasNone : Domains ℕ → Item ℕ → Type 0
OneHasNone ds i = HasNone (pattern (one_column (variable 0)) ds) (i ∷ [])

-- _0 in {1..2}
abbrev pub ranged : Domains ℕ
ranged = domain_at (Some one_or_two ∷ [])

-- the same integer, or the same variable, on both sides: nothing is changed
abbrev pub SameSides : Type 0
SameSides =
    One all_any (equation (variable 0) (variable 0)) (row (one_column (variable 0)) (None ∷ []))
    × One all_any (equation (number 1) (number 1)) (row (one_column (variable 0)) (None ∷ []))

-- two functors, two integers, an integer and an atom, an integer and a compound
abbrev pub SidesDiffer : Type 0
SidesDiffer =
    OneHasNone all_any (equation atom_a atom_b)
    × OneHasNone all_any (equation (number 1) (number 2))
    × OneHasNone all_any (equation (number 1) atom_a)
    × OneHasNone all_any (equation (f_of (one_column (number 1))) (number 1))

-- a variable of domain `any` becomes the other side
abbrev pub AnyIsReplaced : Type 0
AnyIsReplaced = One all_any (equation (variable 0) (number 1)) (row (one_column (number 1)) []) × One all_any (equation atom_a (variable 0)) (row (one_column atom_a) [])

-- a variable with a finite domain becomes an integer of it, no other integer, and no atom
abbrev pub RangedIsReplaced : Type 0
RangedIsReplaced =
    One ranged (equation (variable 0) (number 1)) (row (one_column (number 1)) [])
    × OneHasNone ranged (equation (variable 0) (number 3))
    × OneHasNone ranged (equation (variable 0) atom_a)

-- two variables with finite domains, _0 and _1
abbrev pub two : Domain → Domain → Domains ℕ
two d e = domain_at (Some d ∷ Some e ∷ [])

-- they become one with the meet; the integer where the meet has one; nothing where it is empty
abbrev pub RangedAreMerged : Type 0
RangedAreMerged =
    IsSolved (pattern (two_columns (variable 0) (variable 1)) (two one_or_two one_or_two)) (equation (variable 0) (variable 1) ∷ []) (row (two_columns (variable 0) (variable 0)) (Some one_or_two ∷ []))
    × IsSolved (pattern (two_columns (variable 0) (variable 1)) (two one_or_two two_or_three)) (equation (variable 0) (variable 1) ∷ []) (row (two_columns (number 2) (number 2)) [])
    × HasNone (pattern (two_columns (variable 0) (variable 1)) (two one_or_two only_three)) (equation (variable 0) (variable 1) ∷ [])

-- an integer in a set, and not in it; an atom, and a compound
abbrev pub MembersHold : Type 0
MembersHold =
    One all_any (membership (number 1) one_or_two) (row (one_column (variable 0)) (None ∷ []))
    × OneHasNone all_any (membership (number 3) one_or_two)
    × OneHasNone all_any (membership atom_a one_or_two)
    × OneHasNone all_any (membership (f_of (one_column (number 1))) one_or_two)

-- a variable of domain `any` in a set has it as its domain; one that has a domain has the meet
abbrev pub VariablesAreNarrowed : Type 0
VariablesAreNarrowed =
    One all_any (membership (variable 0) one_or_two) (row (one_column (variable 0)) (Some one_or_two ∷ []))
    × One ranged (membership (variable 0) two_or_three) (row (one_column (number 2)) [])
    × OneHasNone ranged (membership (variable 0) only_three)
