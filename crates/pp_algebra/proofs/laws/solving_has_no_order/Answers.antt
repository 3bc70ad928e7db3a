use Rattle.pp_algebra.proofs.Solving.{any_order, solved_with_more}
use Rattle.pp_algebra.proofs.laws.solving_has_no_order.Goals as goal

pub returns-clause-one_kind : goal.returns-clause-one_kind
returns-clause-one_kind c = any_order

pub returns-clause-two_kinds : goal.returns-clause-two_kinds
returns-clause-two_kinds c = any_order

pub returns-clause-more_of_one_kind : goal.returns-clause-more_of_one_kind
returns-clause-more_of_one_kind c = solved_with_more

pub returns-clause-more_of_two_kinds : goal.returns-clause-more_of_two_kinds
returns-clause-more_of_two_kinds c = solved_with_more
