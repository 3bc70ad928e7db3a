use Rattle.std.proofs.Common.{sym, subst}
use Rattle.pp_row.specs.Givens.{given_of}
use Rattle.pp_tests.specs.Decisions.{test_of, decision_of}
use Rattle.pp_unify.specs.States.{present}
use Rattle.pp_goal.specs.Arguments.{terms_in}
use Rattle.pp_goal.specs.Acts.{IsMade}
use Rattle.pp_goal.proofs.Made.{made_three}
use Rattle.pp_goal.proofs.Deciding.{count-terms, decides_three}
use Rattle.pp_goal.proofs.acts.decide_three.Goals as goal

pub returns-clause-decided : goal.returns-clause-decided
returns-clause-decided c =
    let r = present c.args.bindings.now in
    decides_three r.domains (terms_in r c.args.goal.now c.args.first) (test_of c.args.test) (given_of c.argument-x.result) (given_of c.argument-y.result) (given_of c.argument-z.result) (decision_of c.decide.result) (count-terms r c.args.goal.now c.args.first 3 c.requires.arguments) c.argument-x.ensures c.argument-y.ensures c.argument-z.ensures c.decide.ensures

pub returns-clause-made : goal.returns-clause-made
returns-clause-made c = subst (λ k. IsMade k (decision_of c.decide.result)) (sym c.requires.arguments) (subst (IsMade 3) (sym c.decide.ensures) (made_three c.args.test (given_of c.argument-x.result) (given_of c.argument-y.result) (given_of c.argument-z.result) c.requires.arity))
