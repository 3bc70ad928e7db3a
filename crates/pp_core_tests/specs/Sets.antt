-- Sets of eight things as bits, and what the nodes of a tree are worth.
use Rattle.std.specs.Prelude.{ℕ, ◌<◌, Bool, nat_le, cond, bit_or, List, [], ◌∷◌, get_or}
use Rattle.pp_core.specs.declared.report.ReportOf.{ReportOf}
use Rattle.pp_core.specs.Worths as worths

-- sets of the things 0 to 7
abbrev pub IsSet : ℕ → Type 0
IsSet v = v < 256

-- the leaves 8 to 15 are worth one thing each, and the nodes 1 to 7 what their two children are
abbrev pub table : List ℕ
table = 0 ∷ 255 ∷ 15 ∷ 240 ∷ 3 ∷ 12 ∷ 48 ∷ 192 ∷ 1 ∷ 2 ∷ 4 ∷ 8 ∷ 16 ∷ 32 ∷ 64 ∷ 128 ∷ []

abbrev pub worth_of : ℕ → ℕ
worth_of t = get_or table t 0

-- the last thing settles what is searched, and stands for all
abbrev pub is_settled : ℕ → Bool
is_settled v = nat_le 128 v

abbrev pub outcome_of : ℕ → ℕ
outcome_of v = cond (is_settled v) 255 v

abbrev pub IsFit : ReportOf ℕ ℕ → Type 0
IsFit r = worths.IsFit worth_of bit_or IsSet r
