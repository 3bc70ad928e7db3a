use Rattle.pp_sld.proofs.WorkedSearches.{ends_follow, facts_are_tried, built_in_is_passed, leftmost_is_selected}
use Rattle.pp_sld.proofs.examples.worked_searches.Goals as goal

pub returns-clause-ends_follow : goal.returns-clause-ends_follow
returns-clause-ends_follow c = ends_follow

pub returns-clause-facts_are_tried : goal.returns-clause-facts_are_tried
returns-clause-facts_are_tried c = facts_are_tried

pub returns-clause-built_in_is_passed : goal.returns-clause-built_in_is_passed
returns-clause-built_in_is_passed c = built_in_is_passed

pub returns-clause-leftmost_is_selected : goal.returns-clause-leftmost_is_selected
returns-clause-leftmost_is_selected c = leftmost_is_selected
