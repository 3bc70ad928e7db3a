-- The worked examples hold.
use Rattle.std.proofs.Common.{[], ◌∷◌, pos, Some, refl, ap, ◌∙◌}
use Rattle.std.specs.Prelude.{cond}
use Rattle.std.specs.FinSet as set
use Rattle.pp_algebra.specs.Terms.{variable}
use Rattle.pp_algebra.specs.Rows.{Domain, Row}
use Rattle.pp_algebra.specs.Examples.{one_column, row}
use Rattle.pp_algebra.proofs.SameRow.{same_row-itself}
use Rattle.pp_algebra.proofs.Worked.{two_make}
use Rattle.pp_sld.specs.Verdicts.{most, unique, consistent, unfinished, narrow}
use Rattle.pp_sld.specs.Examples.{ProductBeyondFails, ProductBinds, FactorWaits, PlusBindsTheThird, PlusTests, AtomFails, IndomainSplits, ComparisonWaits, MostNarrows, MostIsUnfinished, MostIsSame, UniqueNarrows, ConsistentSaysNothing, NoLeafFails}

pub product_beyond_fails : ProductBeyondFails
product_beyond_fails = (refl, refl, refl)

pub product_binds : ProductBinds
product_binds = refl

pub factor_waits : FactorWaits
factor_waits = refl

pub plus_binds_the_third : PlusBindsTheThird
plus_binds_the_third = (refl, refl, refl, refl)

pub plus_tests : PlusTests
plus_tests = (refl, refl)

pub atom_fails : AtomFails
atom_fails t = (refl, refl)

pub indomain_splits : IndomainSplits
indomain_splits = (refl, refl, refl)

pub comparison_waits : ComparisonWaits
comparison_waits = (refl, refl, refl, refl)

abbrev one_of : Domain → Row
one_of d = row (one_column (variable 0)) (Some d ∷ [])

abbrev joined : Domain
joined = set.union (set.from_list (pos 1 ∷ [])) (set.union (set.from_list (pos 2 ∷ [])) set.empty)

pub most_narrows : MostNarrows
most_narrows = (ap (λ b. cond b (narrow (one_of joined)) unfinished) (same_row-itself (one_of joined)) ∙ ap (λ d. narrow (one_of d)) (two_make (pos 1) (pos 2)), refl)

pub most_is_unfinished : MostIsUnfinished
most_is_unfinished = refl

pub most_is_same : MostIsSame
most_is_same loose = refl

pub unique_narrows : UniqueNarrows
unique_narrows = (refl, refl, λ loose. refl)

pub consistent_says_nothing : ConsistentSaysNothing
consistent_says_nothing = (λ loose. refl, refl)

pub no_leaf_fails : NoLeafFails
no_leaf_fails most = refl
no_leaf_fails unique = refl
no_leaf_fails consistent = refl
