-- Worked examples of rows, least generalisation, covering and solving.
use Rattle.std.specs.Prelude.{◌≡◌, ℕ, pos, nat_eq, List, [], ◌∷◌, Option, Some, None}
use Rattle.std.specs.FinSet as set
use Rattle.pp_algebra.specs.Terms.{Tree, int, node, variable, Trees, none, more}
use Rattle.pp_algebra.specs.Rows.{Domain, Domains, Row}
use Rattle.pp_algebra.specs.Canon.{canon}
use Rattle.pp_algebra.specs.Least.{least_row}
use Rattle.pp_algebra.specs.Solve.{equation, membership, IsSolved, HasNone}
use Rattle.pp_algebra.specs.Stages.{pattern}
use Rattle.pp_algebra.specs.Covers.{RowCovers}

abbrev pub number : {V : Type 0} → ℕ → Tree V
number n = int (pos n)

-- the atoms a and b, and the functor f
abbrev pub atom_a : {V : Type 0} → Tree V
atom_a = node 0 none

abbrev pub atom_b : {V : Type 0} → Tree V
atom_b = node 1 none

abbrev pub f_of : {V : Type 0} → Trees V → Tree V
f_of ts = node 2 ts

abbrev pub one_column : {V : Type 0} → Tree V → Trees V
one_column t = more t none

abbrev pub two_columns : {V : Type 0} → Tree V → Tree V → Trees V
two_columns t u = more t (more u none)

abbrev pub row : Trees ℕ → List (Option Domain) → Row
row ts ds = record { columns = ts; domains = ds }

-- the domains {1..2} and {2..3}
abbrev pub one_or_two : Domain
one_or_two = set.from_list (pos 1 ∷ pos 2 ∷ [])

abbrev pub two_or_three : Domain
two_or_three = set.from_list (pos 2 ∷ pos 3 ∷ [])

-- (1, 1) and (2, 2) have (_0, _0) in common, with _0 in {1..2}
abbrev pub EqualPairsShare : Type 0
EqualPairsShare = least_row (row (two_columns (number 1) (number 1)) []) (row (two_columns (number 2) (number 2)) [] ∷ []) ≡ row (two_columns (variable 0) (variable 0)) (Some one_or_two ∷ [])

-- that and (1, 2) have (_0, _1) in common, both in {1..2}
abbrev pub OtherPairSeparates : Type 0
OtherPairSeparates = least_row (row (two_columns (variable 0) (variable 0)) (Some one_or_two ∷ [])) (row (two_columns (number 1) (number 2)) [] ∷ []) ≡ row (two_columns (variable 0) (variable 1)) (Some one_or_two ∷ Some one_or_two ∷ [])

-- 1 and the atom a have a variable in common, and its domain is `any`
abbrev pub IntegerAndAtom : Type 0
IntegerAndAtom = least_row (row (one_column (number 1)) []) (row (one_column atom_a) [] ∷ []) ≡ row (one_column (variable 0)) (None ∷ [])

-- f(1, 1) and f(2, 2) have f(_0, _0) in common, with _0 in {1..2}
abbrev pub CompoundsShare : Type 0
CompoundsShare = least_row (row (one_column (f_of (two_columns (number 1) (number 1)))) []) (row (one_column (f_of (two_columns (number 2) (number 2)))) [] ∷ []) ≡ row (one_column (f_of (two_columns (variable 0) (variable 0)))) (Some one_or_two ∷ [])

-- the columns (_7, f(_3, _7)) are numbered (_0, f(_1, _0))
abbrev pub NumberedByFirst : Type 0
NumberedByFirst = (ds : Domains ℕ) → canon nat_eq (pattern (two_columns (variable 7) (f_of (two_columns (variable 3) (variable 7)))) ds) ≡ row (two_columns (variable 0) (f_of (two_columns (variable 1) (variable 0)))) (ds 7 ∷ ds 3 ∷ [])

-- (_0, _1) covers (1, a), and (_0, _0) does not
abbrev pub TwoVariablesCover : Type 0
TwoVariablesCover = RowCovers (row (two_columns (variable 0) (variable 1)) (None ∷ None ∷ [])) (row (two_columns (number 1) atom_a) [])

abbrev pub OneVariableDoesNot : Type 0
OneVariableDoesNot = RowCovers (row (two_columns (variable 0) (variable 0)) (None ∷ [])) (row (two_columns (number 1) atom_a) []) → ⊥

-- _0 in {1..2} covers 1, and neither 3 nor a variable of domain `any`
abbrev pub MemberIsCovered : Type 0
MemberIsCovered = RowCovers (row (one_column (variable 0)) (Some one_or_two ∷ [])) (row (one_column (number 1)) [])

abbrev pub OtherIntegerIsNot : Type 0
OtherIntegerIsNot = RowCovers (row (one_column (variable 0)) (Some one_or_two ∷ [])) (row (one_column (number 3)) []) → ⊥

abbrev pub AnyIsNot : Type 0
AnyIsNot = RowCovers (row (one_column (variable 0)) (Some one_or_two ∷ [])) (row (one_column (variable 0)) (None ∷ [])) → ⊥

abbrev pub all_any : Domains ℕ
all_any v = None

-- f(_0, b) and f(a, _1) are equal where _0 is a and _1 is b
abbrev pub EquationSolves : Type 0
EquationSolves = IsSolved (pattern (two_columns (variable 0) (variable 1)) all_any) (equation (f_of (two_columns (variable 0) atom_b)) (f_of (two_columns atom_a (variable 1))) ∷ []) (row (two_columns atom_a atom_b) [])

-- _0 is never f(_0)
abbrev pub CircleHasNone : Type 0
CircleHasNone = HasNone (pattern (one_column (variable 0)) all_any) (equation (variable 0) (f_of (one_column (variable 0))) ∷ [])

-- _0 in {1..2} and in {2..3} is 2
abbrev pub DomainsMeet : Type 0
DomainsMeet = IsSolved (pattern (one_column (variable 0)) all_any) (membership (variable 0) one_or_two ∷ membership (variable 0) two_or_three ∷ []) (row (one_column (number 2)) [])
