use Rattle.std.proofs.Common.{◌≡◌, map, take}
use Rattle.pp_clause.specs.Places.{counted_goal}
use Rattle.pp_clause.proofs.fresh.fresh_goals.Given as goal

abbrev pub invariant-loop-goal : goal.invariant-loop-goal
invariant-loop-goal l = l.fresh.items ≡ map (counted_goal l.from) (take l.goal-index l.goals)
