use Rattle.pp_sld.proofs.Walks.{walk_gives_verdict, walk_is_at_most, leaf_has_no_walk}
use Rattle.pp_sld.proofs.laws.walks_give_the_verdict.Goals as goal

pub returns-clause-verdict : goal.returns-clause-verdict
returns-clause-verdict c = walk_gives_verdict

pub returns-clause-at_most : goal.returns-clause-at_most
returns-clause-at_most c = walk_is_at_most

pub returns-clause-leaf : goal.returns-clause-leaf
returns-clause-leaf c = leaf_has_no_walk
