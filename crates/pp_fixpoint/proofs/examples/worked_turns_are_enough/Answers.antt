use Rattle.pp_fixpoint.proofs.Worked.{fourteen_are_enough, two_are_enough, any_is_left_out}
use Rattle.pp_fixpoint.proofs.examples.worked_turns_are_enough.Goals as goal

pub returns-clause-fourteen : goal.returns-clause-fourteen
returns-clause-fourteen c = fourteen_are_enough

pub returns-clause-two : goal.returns-clause-two
returns-clause-two c = two_are_enough

pub returns-clause-any : goal.returns-clause-any
returns-clause-any c = any_is_left_out
