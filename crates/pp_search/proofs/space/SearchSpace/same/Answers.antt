use Rattle.pp_search.proofs.Same.{same_by}
use Rattle.pp_search.proofs.space.SearchSpace.same.Goals as goal

pub returns : goal.returns
returns c = same_by c.same.result c.args.a.now c.args.b.now c.same.ensures
