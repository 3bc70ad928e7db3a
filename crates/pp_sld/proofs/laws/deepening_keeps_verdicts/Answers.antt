use Rattle.pp_sld.proofs.Deeper.{leaves_grow}
use Rattle.pp_sld.proofs.DeeperVerdict.{grown_keeps_verdict, deepens}
use Rattle.pp_sld.proofs.laws.deepening_keeps_verdicts.Goals as goal

pub returns-clause-leaves : goal.returns-clause-leaves
returns-clause-leaves c = leaves_grow

pub returns-clause-grown : goal.returns-clause-grown
returns-clause-grown c = grown_keeps_verdict

pub returns-clause-verdict : goal.returns-clause-verdict
returns-clause-verdict c = deepens
