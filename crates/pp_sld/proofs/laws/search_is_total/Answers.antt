use Rattle.pp_sld.proofs.Exists.{goes}
use Rattle.pp_sld.proofs.Trees.{one_search}
use Rattle.pp_sld.proofs.laws.search_is_total.Goals as goal

pub returns-clause-ways : goal.returns-clause-ways
returns-clause-ways c = goes

pub returns-clause-trees : goal.returns-clause-trees
returns-clause-trees c = one_search
