use Rattle.pp_build.proofs.Numbering.{goals_seen, goals_pushed}
use Rattle.pp_build.proofs.renumber.number_goals.Goals as goal

pub loop-goal-preserved : goal.loop-goal-preserved
loop-goal-preserved c =
    let i = c.loop-goal.invariant in
    let e = c.in_ok-number_goal.ensures in
    record {
      seen = goals_seen c.args.seen.now.keys c.loop-goal.seen.keys c.number_goal.new.seen.keys c.loop-goal.yielded c.loop-goal.numbered.items i.seen i.goals c.in-Some.goal c.in_ok-number_goal.field-0 e.seen;
      goals = rw c.in_ok-push.ensures.items (goals_pushed c.args.seen.now.keys c.loop-goal.seen.keys c.number_goal.new.seen.keys c.loop-goal.yielded c.loop-goal.numbered.items i.seen i.goals c.in-Some.goal c.in_ok-number_goal.field-0 e.seen e.goal);
    }
