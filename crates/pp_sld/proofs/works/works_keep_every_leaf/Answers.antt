use Rattle.pp_sld.proofs.WorkLeaves.{next_keeps, last_is_path, split_keeps, down_keeps, worth_inside}
use Rattle.pp_sld.proofs.LaterWorks.{splits_where_next}
use Rattle.pp_sld.proofs.Walks.{worth_is_under, worth_fits}
use Rattle.pp_sld.proofs.works.works_keep_every_leaf.Goals as goal

pub returns-clause-next : goal.returns-clause-next
returns-clause-next c = next_keeps

pub returns-clause-last : goal.returns-clause-last
returns-clause-last c = last_is_path

pub returns-clause-split : goal.returns-clause-split
returns-clause-split c = split_keeps

pub returns-clause-can_split : goal.returns-clause-can_split
returns-clause-can_split c = splits_where_next

pub returns-clause-down : goal.returns-clause-down
returns-clause-down c = down_keeps

pub returns-clause-inside : goal.returns-clause-inside
returns-clause-inside c = worth_inside

pub returns-clause-under : goal.returns-clause-under
returns-clause-under c = worth_is_under

pub returns-clause-fits : goal.returns-clause-fits
returns-clause-fits c = worth_fits
