use Rattle.pp_algebra.proofs.Solving.{for_some, none_for_any}
use Rattle.pp_algebra.proofs.laws.solving_restricts.Goals as goal

pub returns-clause-one_kind : goal.returns-clause-one_kind
returns-clause-one_kind c = for_some

pub returns-clause-two_kinds : goal.returns-clause-two_kinds
returns-clause-two_kinds c = for_some

pub returns-clause-none_of_one_kind : goal.returns-clause-none_of_one_kind
returns-clause-none_of_one_kind c = none_for_any

pub returns-clause-none_of_two_kinds : goal.returns-clause-none_of_two_kinds
returns-clause-none_of_two_kinds c = none_for_any
