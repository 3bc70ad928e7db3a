use Rattle.pp_explore.proofs.Added.{added}
use Rattle.pp_explore.proofs.laws.added_leaves_are_joined.Goals as goal

pub returns : goal.returns
returns c = added
