use Rattle.std.proofs.Common.{◌≡◌, ◌++◌, map, drop}
use Rattle.pp_language.specs.Answers.{lines, unfinished_line}
use Rattle.pp_print.proofs.stores.write_unfinished.Given as goal

abbrev pub invariant-loop-goal : goal.invariant-loop-goal
invariant-loop-goal l = l.out.items ++ lines (map unfinished_line (drop l.goal-index l.unfinished)) ≡ l.initial.out.items ++ lines (map unfinished_line l.unfinished)
