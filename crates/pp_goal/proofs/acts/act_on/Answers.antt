use Rattle.std.proofs.Common.{sym, subst}
use Rattle.pp_sld.specs.Selection.{act_by}
use Rattle.pp_unify.specs.States.{present}
use Rattle.pp_clause.specs.Goals.{Asks}
use Rattle.pp_goal.specs.Arguments.{terms_of, terms_in}
use Rattle.pp_goal.specs.Acts.{IsAct}
use Rattle.pp_goal.proofs.Acting.{acts_by_test}
use Rattle.pp_goal.proofs.acts.act_on.Goals as goal

pub returns-in-Test-clause-act : goal.returns-in-Test-clause-act
returns-in-Test-clause-act c =
    let g = c.args.goal.now in
    let r = present c.args.bindings.now in
    λ cs s a. subst (λ x. IsAct cs g.kind r (terms_of g c.args.first) x (act_by r.domains (terms_in r g c.args.first) s)) (sym c.decided.ensures)
    (acts_by_test cs g.kind r (terms_of g c.args.first) c.in-Test.test c.decide_on.result s c.decide_on.ensures.decided (subst (λ k. Asks cs k s) c.in-Test.is a))
