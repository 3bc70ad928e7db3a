use Rattle.pp_unify.specs.States.{present}
use Rattle.pp_goal_tests.proofs.PlainCells.{plain_is_lent}
use Rattle.pp_goal_tests.proofs.tests.goals.is_lent.Goals as goal

pub returns-then-all_plain : goal.returns-then-all_plain
returns-then-all_plain c = λ i. plain_is_lent (present c.args.bindings.now) c.args.goal.now c.len.result c.len.ensures.count (c.all_plain.ensures.0 c.if-all_plain.true) (c.has_arity.ensures i)
