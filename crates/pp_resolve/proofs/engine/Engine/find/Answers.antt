use Rattle.pp_resolve.proofs.Moving.{same_through}
use Rattle.pp_resolve.proofs.Woken.{all_wait_same}
use Rattle.pp_resolve.proofs.engine.Engine.find.Goals as goal

pub loop-act-init : goal.loop-act-init
loop-act-init c =
    let a = c.find_woken.new.self in
    let s = c.see-act in
    record {
      same = same_through c.args.self.now a s.new.self c.find_woken.ensures.same s.ensures.same;
      wait = all_wait_same a s.new.self s.ensures.same s.ensures.suspended c.in_default.ensures.found;
      sees = s.ensures.sees;
    }

pub loop-act-preserved : goal.loop-act-preserved
loop-act-preserved c =
    let a = c.loop-act.self in
    let b = c.pass.new.self in
    let s = c.see-act-in-Some-Wait in
    record {
      same = same_through c.args.self.now a s.new.self c.loop-act.invariant.same (same_through a b s.new.self c.pass.ensures.same s.ensures.same);
      wait = all_wait_same b s.new.self s.ensures.same s.ensures.suspended c.in_ok-pass.ensures.wait;
      sees = s.ensures.sees;
    }
