use Rattle.std.proofs.Common.{rules, ◌≡◌, ◌<◌, ◌∙◌, length, refl}
use Rattle.pp_deal.specs.Hands.{stolen}
use Rattle.pp_worker.proofs.Peeks.{same_all, set_same, set_none, set_one, stole_since}
use Rattle.pp_worker.proofs.take.steal.Goals as goal

pub loop-i-init : goal.loop-i-init
loop-i-init g c = record { same = same_all c.args.peeks.now.items; none = refl; count = refl }

pub returns-in-Some-clause-peeks : goal.returns-in-Some-clause-peeks
returns-in-Some-clause-peeks g c = set_same c.args.peeks.now.items c.loop-i.peeks.items c.loop-i.i c.index_mut.result.now c.steal_from.new.peek c.loop-i.invariant.same c.index_mut.ensures.value c.steal_from.ensures.peek

pub returns-in-Some-clause-stolen : goal.returns-in-Some-clause-stolen
returns-in-Some-clause-stolen g c =
    let within : c.loop-i.i < length c.loop-i.peeks.items = search rules in
    let one = set_one c.loop-i.peeks.items c.loop-i.i c.index_mut.result.now c.steal_from.new.peek c.in-Some.task within c.index_mut.ensures.value c.in-Some.ensures.stolen in
    stole_since c.args.peeks.now.items c.loop-i.peeks.items _ c.in-Some.task c.loop-i.invariant.none one

pub loop-i-preserved : goal.loop-i-preserved
loop-i-preserved g c =
    let kept : stolen c.steal_from.new.peek ≡ stolen c.index_mut.result.now = search rules in
    record {
      same = set_same c.args.peeks.now.items c.loop-i.peeks.items c.loop-i.i c.index_mut.result.now c.steal_from.new.peek c.loop-i.invariant.same c.index_mut.ensures.value c.steal_from.ensures.peek;
      none = set_none c.loop-i.peeks.items c.loop-i.i c.index_mut.result.now c.steal_from.new.peek c.index_mut.ensures.value kept ∙ c.loop-i.invariant.none;
      count = c.loop-i.invariant.count;
    }
