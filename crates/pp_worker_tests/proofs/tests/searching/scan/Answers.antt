use Rattle.std.proofs.Common.{rules, ◌≡◌, max, arith, sym, ◌∙◌}
use Rattle.std.proofs.lemmas.Grind.{common_steps}
use Rattle.pp_stop.specs.Seats.{has_seen, late, saw_dry, saw_settled}
use Rattle.pp_worker_tests.proofs.Loads.{no_bit, none_before, same_late}
use Rattle.pp_worker_tests.proofs.Spans.{one_more}
use Rattle.pp_worker_tests.proofs.tests.searching.scan.Goals as goal

pub loop-done-preserved : goal.loop-done-preserved
loop-done-preserved c =
    let old = c.loop-done.seat in
    let new = c.is_up-up.new.seat in
    let inv = c.loop-done.invariant in
    let e = c.is_up-up.ensures in
    let none = sym c.in-No.ensures.up in
    let is : c.max-top.result ≡ max c.loop-done.top c.height.result = first_of (search rules, grind (arith, common_steps)) in
    record {
      seat = e.seat;
      seen = (λ h. e.seen.0 (inv.seen.0 h), λ h. e.seen.1 (inv.seen.1 h));
      late = λ h. (no_bit (saw_settled new) (saw_dry new) none, same_late (has_seen old) (late c.args.seat.now) (late old) (late new) (inv.late h).0 (inv.late h).1 e.late);
      top = is ∙ ((λ i. max (inv.top i) (c.height.ensures i)) ∙ sym (one_more c.args.low c.loop-done.done));
      loads = omega (arith, e.loads, inv.loads);
      fresh = λ h. absurd (none_before (saw_settled c.args.seat.now) (saw_dry c.args.seat.now) (saw_settled new) (saw_dry new) (λ k. e.seen.0 (inv.seen.0 k)) (λ k. e.seen.1 (inv.seen.1 k)) none h);
    }
