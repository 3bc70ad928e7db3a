use Rattle.pp_sld.proofs.Reports.{walk_begins, walk_goes_down, walk_goes_on, walk_ends, walk_splits}
use Rattle.pp_sld.proofs.works.walks_keep_every_leaf.Goals as goal

pub returns-clause-begins : goal.returns-clause-begins
returns-clause-begins c = walk_begins

pub returns-clause-down : goal.returns-clause-down
returns-clause-down c = walk_goes_down

pub returns-clause-on : goal.returns-clause-on
returns-clause-on c = walk_goes_on

pub returns-clause-ends : goal.returns-clause-ends
returns-clause-ends c = walk_ends

pub returns-clause-splits : goal.returns-clause-splits
returns-clause-splits c = walk_splits
