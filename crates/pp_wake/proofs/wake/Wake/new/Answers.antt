use Rattle.std.proofs.Common.{◌≡◌, ◌+◌, refl, arith}
use Rattle.pp_wake.proofs.Queues.{numbers_next, all_agree}
use Rattle.pp_wake.proofs.wake.Wake.new.Goals as goal

pub loop-before-preserved : goal.loop-before-preserved
loop-before-preserved c = record {
  numbers = numbers_next c.loop-before.before (c.loop-before.before + 1) (c.loop-before.before + 1) c.loop-before.queue.items c.push_back_reserved.new.self.items c.loop-before.invariant.numbers refl c.push_back_reserved.ensures.items refl;
  len = omega (arith, c.push_back_reserved.ensures.len, c.loop-before.invariant.len);
  room = omega (arith, c.push_back_reserved.ensures.capacity, c.loop-before.invariant.room);
}

pub invariant_of-result : goal.invariant_of-result
invariant_of-result c =
    let e : c.loop-before.before ≡ c.args.goals = omega arith in
    all_agree c.loop-before.before _ _ c.in_ok-flags.flags.items c.loop-before.queue.items (rw e (c.in_ok-flags.ensures.items_if_clones_equal (λ y f. f))) c.loop-before.invariant.numbers c.loop-before.invariant.len (omega (arith, e, c.loop-before.invariant.room))
