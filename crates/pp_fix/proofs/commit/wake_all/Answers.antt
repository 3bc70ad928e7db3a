use Rattle.std.proofs.Common.{◌∙◌, refl, get_or}
use Rattle.pp_fix.proofs.Waking.{put_next}
use Rattle.pp_fix.proofs.commit.wake_all.Goals as goal

pub loop-goal-preserved : goal.loop-goal-preserved
loop-goal-preserved c = record {
  goals = c.wake.ensures.goals ∙ c.loop-goal.invariant.goals;
  waiting = put_next c.args.goals.now c.args.wake.now.waiting c.loop-goal.wake.waiting c.wake.new.self.waiting c.loop-goal.goal-index (get_or c.args.goals.now c.loop-goal.goal-index 0) 0 c.loop-goal-test.true refl c.loop-goal.invariant.waiting c.wake.ensures.waiting;
}
