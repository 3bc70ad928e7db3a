use Rattle.pp_sld.proofs.LaterWorks.{none_is_later, later_through, next_is_later, down_is_later, split_is_later}
use Rattle.pp_sld.proofs.works.works_are_ordered.Goals as goal

pub returns-clause-not_itself : goal.returns-clause-not_itself
returns-clause-not_itself c = none_is_later

pub returns-clause-through : goal.returns-clause-through
returns-clause-through c = later_through

pub returns-clause-next : goal.returns-clause-next
returns-clause-next c = next_is_later

pub returns-clause-down : goal.returns-clause-down
returns-clause-down c = down_is_later

pub returns-clause-split : goal.returns-clause-split
returns-clause-split c = split_is_later
