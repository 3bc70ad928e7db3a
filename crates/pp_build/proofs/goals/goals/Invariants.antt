use Rattle.std.proofs.Common.{◌≡◌, map}
use Rattle.pp_term.specs.Meanings.{goal_of}
use Rattle.pp_build.specs.Values.{goal_from}
use Rattle.pp_build.proofs.goals.goals.Given as goal

abbrev pub invariant-loop-entry : goal.invariant-loop-entry
invariant-loop-entry l = map goal_of l.goals.items ≡ map (goal_from l.names l.parts) l.yielded
