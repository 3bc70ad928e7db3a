use Rattle.std.proofs.Common.{◌≡◌}
use Rattle.pp_row.specs.Reading.{forest, from}
use Rattle.pp_goal.specs.Arguments.{after}
use Rattle.pp_goal.proofs.matching.may_match.Given as goal

abbrev pub invariant-loop-at : goal.invariant-loop-at
invariant-loop-at l = record {
  goal : from l.fn.goal.arguments.now l.at ≡ after l.at (forest l.fn.goal.arguments.now);
  head : from l.head l.at ≡ after l.at (forest l.head);
}
