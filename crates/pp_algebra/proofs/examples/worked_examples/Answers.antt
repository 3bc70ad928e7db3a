use Rattle.pp_algebra.proofs.Worked.{equal_pairs_share, other_pair_separates, integer_and_atom, compounds_share, numbered_by_first, two_variables_cover, one_variable_does_not, member_is_covered, other_integer_is_not, any_is_not, equation_solves, circle_has_none, domains_meet}
use Rattle.pp_algebra.proofs.examples.worked_examples.Goals as goal

pub returns-clause-equal_pairs_share : goal.returns-clause-equal_pairs_share
returns-clause-equal_pairs_share c = equal_pairs_share

pub returns-clause-other_pair_separates : goal.returns-clause-other_pair_separates
returns-clause-other_pair_separates c = other_pair_separates

pub returns-clause-integer_and_atom : goal.returns-clause-integer_and_atom
returns-clause-integer_and_atom c = integer_and_atom

pub returns-clause-compounds_share : goal.returns-clause-compounds_share
returns-clause-compounds_share c = compounds_share

pub returns-clause-numbered_by_first : goal.returns-clause-numbered_by_first
returns-clause-numbered_by_first c = numbered_by_first

pub returns-clause-two_variables_cover : goal.returns-clause-two_variables_cover
returns-clause-two_variables_cover c = two_variables_cover

pub returns-clause-one_variable_does_not : goal.returns-clause-one_variable_does_not
returns-clause-one_variable_does_not c = one_variable_does_not

pub returns-clause-member_is_covered : goal.returns-clause-member_is_covered
returns-clause-member_is_covered c = member_is_covered

pub returns-clause-other_integer_is_not : goal.returns-clause-other_integer_is_not
returns-clause-other_integer_is_not c = other_integer_is_not

pub returns-clause-any_is_not : goal.returns-clause-any_is_not
returns-clause-any_is_not c = any_is_not

pub returns-clause-equation_solves : goal.returns-clause-equation_solves
returns-clause-equation_solves c = equation_solves

pub returns-clause-circle_has_none : goal.returns-clause-circle_has_none
returns-clause-circle_has_none c = circle_has_none

pub returns-clause-domains_meet : goal.returns-clause-domains_meet
returns-clause-domains_meet c = domains_meet
