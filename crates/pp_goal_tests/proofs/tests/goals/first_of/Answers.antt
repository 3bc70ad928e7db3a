use Rattle.pp_goal_tests.proofs.tests.goals.first_of.Goals as goal

pub value_at-requires-clause-over : goal.value_at-requires-clause-over
value_at-requires-clause-over g c = (c.is_lent.ensures c.if-is_lent.true).over
