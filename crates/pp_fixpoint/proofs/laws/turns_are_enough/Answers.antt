use Rattle.pp_fixpoint.proofs.Enough.{narrowing_shrinks, turns_are_enough}
use Rattle.pp_fixpoint.proofs.laws.turns_are_enough.Goals as goal

pub returns-clause-shrinks : goal.returns-clause-shrinks
returns-clause-shrinks c = narrowing_shrinks

pub returns-clause-enough : goal.returns-clause-enough
returns-clause-enough c = turns_are_enough
