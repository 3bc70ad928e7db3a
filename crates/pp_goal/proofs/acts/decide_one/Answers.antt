use Rattle.std.proofs.Common.{sym, subst}
use Rattle.pp_row.specs.Givens.{given_of}
use Rattle.pp_tests.specs.Decisions.{test_of, decision_of}
use Rattle.pp_unify.specs.States.{present}
use Rattle.pp_goal.specs.Arguments.{terms_in}
use Rattle.pp_goal.specs.Acts.{IsMade}
use Rattle.pp_goal.proofs.Made.{made_one}
use Rattle.pp_goal.proofs.Deciding.{count-terms, decides_one}
use Rattle.pp_goal.proofs.acts.decide_one.Goals as goal

pub returns-clause-decided : goal.returns-clause-decided
returns-clause-decided c =
    let r = present c.args.bindings.now in
    decides_one r.domains (terms_in r c.args.goal.now c.args.first) (test_of c.args.test) (given_of c.argument-only.result) (decision_of c.decide.result) (count-terms r c.args.goal.now c.args.first 1 c.requires.arguments) c.argument-only.ensures c.decide.ensures

pub returns-clause-made : goal.returns-clause-made
returns-clause-made c = subst (λ k. IsMade k (decision_of c.decide.result)) (sym c.requires.arguments) (subst (IsMade 1) (sym c.decide.ensures) (made_one c.args.test (given_of c.argument-only.result) c.requires.arity))
