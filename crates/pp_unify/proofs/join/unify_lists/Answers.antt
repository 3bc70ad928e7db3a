use Rattle.std.proofs.Common.{◌≡◌, ◌+◌, ◌≤◌, [], All, length, ap, sym, ◌∙◌, subst, arith}
use Rattle.std.proofs.Math.ListN.{drop_of_length-le}
use Rattle.pp_algebra.specs.Terms.{none, count}
use Rattle.pp_row.specs.Reading.{forest, from}
use Rattle.pp_heap.specs.Spans.{IsSpan}
use Rattle.pp_unify.specs.Taking.{left_of}
use Rattle.pp_unify.proofs.Walking.{begun, count_counted, wider_grown, never, passed, met, met_counts, met_apart, reached, some_left}
use Rattle.pp_unify.proofs.Wider.{onward_itself, onward_through, onward_grown}
use Rattle.pp_unify.proofs.Widths.{wider_itself, wider_through}
use Rattle.pp_unify.proofs.Stepping.{next_turned}
use Rattle.pp_unify.proofs.join.unify_lists.Goals as goal

pub loop-next-init : goal.loop-next-init
loop-next-init c =
    let a = c.args.state.now in
    let ws = c.clear.new.self.items in
    let e : ws ≡ [] = c.clear.ensures.items in
    record {
      onward = onward_itself a c.requires.good;
      wider = wider_itself a c.args.base c.args.head.now;
      all = subst (All (IsSpan a.heap.items)) (sym e) (λ k d l. absurd (omega (arith, l)));
      counts = ap (λ vs. count (left_of a vs c.args.first c.args.goal.now 0)) e ∙ count_counted c.args.first (from c.args.goal.now 0) ∙ sym c.requires.width;
      same = begun a ws c.args.first c.args.goal.now c.args.base c.args.head.now e;
    }

pub returns-in_err-take_next-clause-onward : goal.returns-in_err-take_next-clause-onward
returns-in_err-take_next-clause-onward c =
    let i = c.loop-next.state in
    let j = c.take_next.new.state in
    onward_through c.args.state.now i j c.loop-next.invariant.onward (onward_grown i j c.take_next.ensures.grown)

pub returns-in-Apart-clause-onward : goal.returns-in-Apart-clause-onward
returns-in-Apart-clause-onward c =
    let i = c.loop-next.state in
    let j = c.take_next.new.state in
    onward_through c.args.state.now i j c.loop-next.invariant.onward (onward_grown i j c.take_next.ensures.grown)

pub returns-in-Apart-clause-joined : goal.returns-in-Apart-clause-joined
returns-in-Apart-clause-joined c =
    let i = c.loop-next.state in
    let at = c.loop-next.at in
    never c.args.state.now i c.take_next.new.state c.loop-next.work.items c.take_next.new.work.items c.args.first c.args.goal.now at at c.args.base c.args.head.now c.loop-next.next
    c.loop-next.invariant.onward.good c.take_next.ensures.grown c.loop-next.invariant.same (rw c.in-Apart.is at c.in_ok-take_next.ensures.taken)

pub loop-next-preserved-in-Alike : goal.loop-next-preserved-in-Alike
loop-next-preserved-in-Alike c =
    let a = c.args.state.now in
    let i = c.loop-next.state in
    let j = c.take_next.new.state in
    let m = c.args.base in
    let head = c.args.head.now in
    let g = c.take_next.ensures.grown in
    let p = rw c.in-Alike.is at c.in_ok-take_next.ensures.taken in
    record {
      onward = onward_through a i j c.loop-next.invariant.onward (onward_grown i j g);
      wider = wider_through a i j m head c.loop-next.invariant.wider (wider_grown i j m head g);
      all = c.in_ok-take_next.ensures.all;
      counts = omega (arith, p.counts, c.loop-next.invariant.counts);
      same = passed a i j c.loop-next.work.items c.take_next.new.work.items c.args.first c.args.goal.now c.loop-next.at c.in-Alike.on m head c.loop-next.next
          c.loop-next.invariant.onward.good g c.loop-next.invariant.same p;
    }

pub returns-in_err-after-in-Value-clause-onward : goal.returns-in_err-after-in-Value-clause-onward
returns-in_err-after-in-Value-clause-onward c =
    let i = c.loop-next.state in
    let j = c.take_next.new.state in
    let b = c.meet_head.new.state in
    onward_through c.args.state.now i b c.loop-next.invariant.onward (onward_through i j b (onward_grown i j c.take_next.ensures.grown) c.meet_head.ensures.onward)

pub take_slot-requires-clause-some : goal.take_slot-requires-clause-some
take_slot-requires-clause-some c = some_left c.loop-next.state c.loop-next.work.items c.args.first c.args.goal.now c.loop-next.at c.args.head.now c.loop-next.next c.requires.head c.loop-next-test.true c.loop-next.invariant.counts

pub returns-in_err-slot-clause-onward : goal.returns-in_err-slot-clause-onward
returns-in_err-slot-clause-onward c =
    let i = c.loop-next.state in
    let j = c.take_slot.new.state in
    onward_through c.args.state.now i j c.loop-next.invariant.onward (onward_grown i j c.take_slot.ensures.grown)

pub returns-in_err-add_variable-clause-onward : goal.returns-in_err-add_variable-clause-onward
returns-in_err-add_variable-clause-onward c =
    let i = c.loop-next.state in
    let j = c.take_slot.new.state in
    let b = c.add_variable.new.state in
    onward_through c.args.state.now i b c.loop-next.invariant.onward (onward_through i j b (onward_grown i j c.take_slot.ensures.grown) c.add_variable.ensures.onward)

pub loop-next-preserved-in-Some : goal.loop-next-preserved-in-Some
loop-next-preserved-in-Some c =
    let a = c.args.state.now in
    let i = c.loop-next.state in
    let j = c.take_slot.new.state in
    let b = c.add_variable.new.state in
    let ws = c.loop-next.work.items in
    let us = c.take_slot.new.work.items in
    let n = c.args.first in
    let goal = c.args.goal.now in
    let at = c.loop-next.at in
    let m = c.args.base in
    let head = c.args.head.now in
    let to = c.loop-next.next in
    let g = c.take_slot.ensures.grown in
    let good = c.loop-next.invariant.onward.good in
    let r = c.loop-next.invariant.same in
    let h = rw c.in-Some.is at c.next_variable.ensures in
    let v = c.in_ok-slot.ensures.taken in
    let k = c.in_ok-add_variable.ensures.met v.0 v.1 v.2.now in
    let t = next_turned i j b us v.0 m head to c.in-Some.number g.good c.requires.head c.loop-next-test.true c.in_ok-slot.ensures.all h k in
    record {
      onward = onward_through a i b c.loop-next.invariant.onward (onward_through i j b (onward_grown i j g) c.add_variable.ensures.onward);
      wider = wider_through a j b m head (wider_through a i j m head c.loop-next.invariant.wider (wider_grown i j m head g)) t.wider;
      all = t.all;
      counts = met_counts a i j ws us n goal at _ m head to good g r b us v.0 v.2 (to + 1) c.loop-next.invariant.counts t;
      same = met a i j ws us n goal at _ m head to good g r b us v.0 v.2 (to + 1) t;
    }

pub loop-next-preserved : goal.loop-next-preserved
loop-next-preserved c =
    let a = c.args.state.now in
    let i = c.loop-next.state in
    let j = c.take_next.new.state in
    let b = c.meet_head.new.state in
    let ws = c.loop-next.work.items in
    let us = c.take_next.new.work.items in
    let now = c.meet_head.new.work.items in
    let n = c.args.first in
    let goal = c.args.goal.now in
    let at = c.loop-next.at in
    let on = c.in-Value.on in
    let m = c.args.base in
    let head = c.args.head.now in
    let to = c.loop-next.next in
    let v = c.in-Value.value in
    let g = c.take_next.ensures.grown in
    let good = c.loop-next.invariant.onward.good in
    let r = c.loop-next.invariant.same in
    let o = rw c.in-Value.is at c.in_ok-take_next.ensures.taken in
    let t = rw c.in-Some-2.is at c.in_ok-after-in-Value.ensures.turned in
    record {
      onward = onward_through a i b c.loop-next.invariant.onward (onward_through i j b (onward_grown i j g) c.meet_head.ensures.onward);
      wider = wider_through a j b m head (wider_through a i j m head c.loop-next.invariant.wider (wider_grown i j m head g)) t.wider;
      all = t.all;
      counts = met_counts a i j ws us n goal at on m head to good g r b now v o c.in-Some-2.after c.loop-next.invariant.counts t;
      same = met a i j ws us n goal at on m head to good g r b now v o c.in-Some-2.after t;
    }

pub returns-in-None-clause-onward : goal.returns-in-None-clause-onward
returns-in-None-clause-onward c =
    let i = c.loop-next.state in
    let j = c.take_next.new.state in
    let b = c.meet_head.new.state in
    onward_through c.args.state.now i b c.loop-next.invariant.onward (onward_through i j b (onward_grown i j c.take_next.ensures.grown) c.meet_head.ensures.onward)

pub returns-in-None-clause-joined : goal.returns-in-None-clause-joined
returns-in-None-clause-joined c =
    let o = rw c.in-Value.is at c.in_ok-take_next.ensures.taken in
    let t = rw c.in-None.is at c.in_ok-after-in-Value.ensures.turned in
    met_apart c.args.state.now c.loop-next.state c.take_next.new.state c.loop-next.work.items c.take_next.new.work.items c.args.first c.args.goal.now c.loop-next.at c.in-Value.on c.args.base c.args.head.now c.loop-next.next
    c.loop-next.invariant.onward.good c.take_next.ensures.grown c.loop-next.invariant.same c.meet_head.new.state c.meet_head.new.work.items c.in-Value.value o t

pub returns-clause-joined : goal.returns-clause-joined
returns-clause-joined c =
    let head = c.args.head.now in
    let to = c.loop-next.next in
    let past : length head ≤ to = omega (arith, c.loop-next-test.false) in
    let z : from head to ≡ none = ap (λ ds. forest ds) (drop_of_length-le head past) in
    (c.loop-next.invariant.wider, reached c.args.state.now c.loop-next.state c.loop-next.work.items c.args.first c.args.goal.now c.loop-next.at c.args.base head to z c.loop-next.invariant.counts c.loop-next.invariant.same)
