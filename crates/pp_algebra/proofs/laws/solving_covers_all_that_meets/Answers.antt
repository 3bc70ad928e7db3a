use Rattle.pp_algebra.proofs.Solving.{solved_covers}
use Rattle.pp_algebra.proofs.laws.solving_covers_all_that_meets.Goals as goal

pub returns-clause-one_kind : goal.returns-clause-one_kind
returns-clause-one_kind c = solved_covers

pub returns-clause-two_kinds : goal.returns-clause-two_kinds
returns-clause-two_kinds c = solved_covers
