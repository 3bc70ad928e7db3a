use Rattle.pp_domain.proofs.Ascending.{one_value_alone}
use Rattle.pp_domain.proofs.laws.one_value_alone.Goals as goal

pub returns : goal.returns
returns c = one_value_alone
