use Rattle.std.proofs.Common.{◌<◌, arith, ◌∙◌, sym}
use Rattle.pp_heap.specs.declared.state.Value.TheVariants.{Variable}
use Rattle.pp_heap.specs.Stores.{store_of}
use Rattle.pp_heap.proofs.Slots.{slot_read, agrees_bound}
use Rattle.pp_heap.proofs.state.State.chain_end.Goals as goal

pub loop-next-smaller : goal.loop-next-smaller
loop-next-smaller c = c.requires.linked.bound c.loop-next.end (Variable c.in-Alias.next) (slot_read c.args.self.now.slots.items c.loop-next.end c.index.result.now c.index.ensures c.loop-next.invariant.within ∙ c.in-Alias.is)

pub loop-next-preserved : goal.loop-next-preserved
loop-next-preserved c =
    let e = slot_read c.args.self.now.slots.items c.loop-next.end c.index.result.now c.index.ensures c.loop-next.invariant.within ∙ c.in-Alias.is in
    let l : c.in-Alias.next < c.loop-next.end = c.requires.linked.bound c.loop-next.end (Variable c.in-Alias.next) e in
    record {
      within = omega arith;
      same = λ ds s a. c.loop-next.invariant.same ds s a ∙ agrees_bound (store_of c.args.self.now) ds s c.loop-next.end (Variable c.in-Alias.next) a e;
    }

pub returns : goal.returns
returns c =
    let e = slot_read c.args.self.now.slots.items c.loop-next.end c.index.result.now c.index.ensures c.loop-next.invariant.within in
    record {
      within = c.loop-next.invariant.within;
      end = λ w q. c.in_default.not-Alias w (sym e ∙ q);
      same = c.loop-next.invariant.same;
    }
