use Rattle.pp_algebra.proofs.Law.{solved_once}
use Rattle.pp_algebra.proofs.laws.solving_is_unique.Goals as goal

pub returns-clause-one_kind : goal.returns-clause-one_kind
returns-clause-one_kind c = solved_once

pub returns-clause-two_kinds : goal.returns-clause-two_kinds
returns-clause-two_kinds c = solved_once
