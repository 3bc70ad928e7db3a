use Rattle.pp_algebra.proofs.Solving.{in_stages}
use Rattle.pp_algebra.proofs.laws.solving_goes_in_stages.Goals as goal

pub returns-clause-one_kind : goal.returns-clause-one_kind
returns-clause-one_kind c = in_stages

pub returns-clause-two_kinds : goal.returns-clause-two_kinds
returns-clause-two_kinds c = in_stages
