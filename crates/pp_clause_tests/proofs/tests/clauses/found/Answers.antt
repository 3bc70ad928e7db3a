use Rattle.std.proofs.Common.{arith}
use Rattle.pp_clause_tests.proofs.tests.clauses.found.Goals as goal

pub number-number-requires : goal.number-number-requires
number-number-requires g c = (c.args.pred, c.predicate.ensures, omega (arith, c.count.ensures))
