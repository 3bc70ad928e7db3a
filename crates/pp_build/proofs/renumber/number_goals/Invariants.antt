use Rattle.std.proofs.Common.{◌≡◌, map}
use Rattle.std.specs.Prelude.{nat_eq}
use Rattle.std.specs.List.{flat_map}
use Rattle.pp_algebra.specs.Canon.{firsts}
use Rattle.pp_build.specs.Renumbered.{goal_variables, placed, put_goal}
use Rattle.pp_build.proofs.renumber.number_goals.Given as goal

abbrev pub invariant-loop-goal : goal.invariant-loop-goal
invariant-loop-goal l = record {
  seen : l.seen.keys ≡ firsts nat_eq l.initial.seen.keys (flat_map goal_variables l.yielded);
  goals : l.numbered.items ≡ map (put_goal (placed l.seen.keys)) l.yielded;
}
