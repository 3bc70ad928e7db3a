use Rattle.pp_sld.proofs.OneVerdict.{one_list, one_verdict}
use Rattle.pp_sld.proofs.laws.verdict_is_unique.Goals as goal

pub returns-clause-leaves : goal.returns-clause-leaves
returns-clause-leaves c = one_list

pub returns-clause-verdict : goal.returns-clause-verdict
returns-clause-verdict c = one_verdict
