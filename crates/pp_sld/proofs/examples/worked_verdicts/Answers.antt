use Rattle.pp_sld.proofs.Worked.{most_narrows, most_is_unfinished, most_is_same, unique_narrows, consistent_says_nothing, no_leaf_fails}
use Rattle.pp_sld.proofs.examples.worked_verdicts.Goals as goal

pub returns-clause-most_narrows : goal.returns-clause-most_narrows
returns-clause-most_narrows c = most_narrows

pub returns-clause-most_is_unfinished : goal.returns-clause-most_is_unfinished
returns-clause-most_is_unfinished c = most_is_unfinished

pub returns-clause-most_is_same : goal.returns-clause-most_is_same
returns-clause-most_is_same c = most_is_same

pub returns-clause-unique_narrows : goal.returns-clause-unique_narrows
returns-clause-unique_narrows c = unique_narrows

pub returns-clause-consistent_says_nothing : goal.returns-clause-consistent_says_nothing
returns-clause-consistent_says_nothing c = consistent_says_nothing

pub returns-clause-no_leaf_fails : goal.returns-clause-no_leaf_fails
returns-clause-no_leaf_fails c = no_leaf_fails
