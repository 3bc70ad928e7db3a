use Rattle.std.proofs.Common.{◌<◌, length, arith}
use Rattle.pp_clause.proofs.Places.{get_some}
use Rattle.pp_clause_tests.proofs.tests.clauses.expect_body.Goals as goal

pub goal-goal-requires : goal.goal-goal-requires
goal-goal-requires g c =
    let l : 0 < length c.args.table.now = omega arith in
    let x = get_some c.args.table.now 0 l in
    (x.0, x.1, omega (arith, c.body_len.ensures x.0 x.1))
