use Rattle.std.proofs.Common.{◌≡◌, ap, arith}
use Rattle.pp_clause_tests.proofs.Places.{one_clause}
use Rattle.pp_clause_tests.proofs.tests.clauses.fresh.Goals as goal

pub fresh-requires-clause-fits : goal.fresh-requires-clause-fits
fresh-requires-clause-fits g c = λ n d h.
    let e : d.vars ≡ c.get.result.now.vars = ap (λ x. x.vars) (one_clause c.args.pred c.args.table.now c.args.place n c.get.ensures.0 d c.get.result.now h c.get.ensures.1) in
    omega (arith, e)
