use Rattle.pp_sld.proofs.Once.{leads_once, once}
use Rattle.pp_sld.proofs.laws.search_is_unique.Goals as goal

pub returns-clause-ways : goal.returns-clause-ways
returns-clause-ways c = leads_once

pub returns-clause-trees : goal.returns-clause-trees
returns-clause-trees c = once
