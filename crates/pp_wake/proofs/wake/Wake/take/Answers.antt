use Rattle.std.proofs.Common.{refl}
use Rattle.pp_wake.proofs.Queues.{taken_agree}
use Rattle.pp_wake.proofs.wake.Wake.take.Goals as goal

pub invariant_of-self-2 : goal.invariant_of-self-2
invariant_of-self-2 c = taken_agree c.self.inside.flags.items _ c.self.inside.queue.items c.pop_front.new.self.items c.in_ok-goal.goal _ _ _ _ c.self.invariant c.in_ok-goal.ensures.items refl c.in_ok-goal.ensures.cases c.in_ok-goal.ensures.capacity
