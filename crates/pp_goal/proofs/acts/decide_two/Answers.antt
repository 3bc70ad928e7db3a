use Rattle.std.proofs.Common.{sym, subst}
use Rattle.pp_row.specs.Givens.{given_of}
use Rattle.pp_tests.specs.Decisions.{test_of, decision_of}
use Rattle.pp_unify.specs.States.{present}
use Rattle.pp_goal.specs.Arguments.{terms_in}
use Rattle.pp_goal.specs.Acts.{IsMade}
use Rattle.pp_goal.proofs.Made.{made_two}
use Rattle.pp_goal.proofs.Deciding.{count-terms, decides_two}
use Rattle.pp_goal.proofs.acts.decide_two.Goals as goal

pub returns-clause-decided : goal.returns-clause-decided
returns-clause-decided c =
    let r = present c.args.bindings.now in
    decides_two r.domains (terms_in r c.args.goal.now c.args.first) (test_of c.args.test) (given_of c.argument-left.result) (given_of c.argument-right.result) (decision_of c.decide.result) (count-terms r c.args.goal.now c.args.first 2 c.requires.arguments) c.argument-left.ensures c.argument-right.ensures c.decide.ensures

pub returns-clause-made : goal.returns-clause-made
returns-clause-made c = subst (λ k. IsMade k (decision_of c.decide.result)) (sym c.requires.arguments) (subst (IsMade 2) (sym c.decide.ensures) (made_two c.args.test (given_of c.argument-left.result) (given_of c.argument-right.result) c.requires.arity))
