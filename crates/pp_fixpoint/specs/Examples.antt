-- Worked examples: how many turns are enough for two goals that share a variable.
use Rattle.std.specs.Prelude.{[], ◌∷◌, Some}
use Rattle.pp_algebra.specs.Terms.{variable, none, more}
use Rattle.pp_algebra.specs.Rows.{Row}
use Rattle.pp_algebra.specs.Examples.{row, one_or_two, two_or_three}
use Rattle.pp_propagation.specs.Examples.{chain, nothing_known, all_known}
use Rattle.pp_fixpoint.specs.Fixpoints.{AreEnoughTurns}

-- X and Z are 1 or 2, and Y is 2 or 3
abbrev pub pairs_known : Row
pairs_known = row (more (variable 0) (more (variable 1) (more (variable 2) none)))
    (Some one_or_two ∷ Some two_or_three ∷ Some one_or_two ∷ [])

-- six integers in the domains: seven turns for each of the two goals are enough, and the law says nothing of one less
abbrev pub FourteenAreEnough : Type 0
FourteenAreEnough = AreEnoughTurns chain pairs_known 14 × (AreEnoughTurns chain pairs_known 13 → ⊥)

-- where all is known, a turn for each goal
abbrev pub TwoAreEnough : Type 0
TwoAreEnough = AreEnoughTurns chain all_known 2

-- where a domain is `any`, the law says nothing
abbrev pub AnyIsLeftOut : Type 0
AnyIsLeftOut = AreEnoughTurns chain nothing_known 1000000 → ⊥
