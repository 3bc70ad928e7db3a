use Rattle.std.proofs.Common.{◌∙◌}
use Rattle.pp_heap.specs.declared.state.Value.TheVariants.{Int, Atom, Compound}
use Rattle.pp_heap.specs.Stores.{store_of}
use Rattle.pp_heap.proofs.Slots.{slot_read, agrees_bound, only_free}
use Rattle.pp_heap.proofs.Words.{word}
use Rattle.pp_heap.proofs.state.State.value_of.Goals as goal

pub returns-in-Int : goal.returns-in-Int
returns-in-Int c =
    let e = slot_read c.args.self.now.slots.items c.chain_end-end.result c.index.result.now c.index.ensures c.chain_end-end.ensures.within ∙ c.in-Int.is in
    let n = c.requires.linked.bound c.chain_end-end.result (Int c.in-Int.value) e in
    rw (word c.in-Int.value n) (record {
      now = n;
      same = λ ds s a. c.chain_end-end.ensures.same ds s a ∙ agrees_bound (store_of c.args.self.now) ds s c.chain_end-end.result (Int c.in-Int.value) a e;
    })

pub returns-in-Atom : goal.returns-in-Atom
returns-in-Atom c =
    let e = slot_read c.args.self.now.slots.items c.chain_end-end.result c.index.result.now c.index.ensures c.chain_end-end.ensures.within ∙ c.in-Atom.is in
    record {
      now = tt;
      same = λ ds s a. c.chain_end-end.ensures.same ds s a ∙ agrees_bound (store_of c.args.self.now) ds s c.chain_end-end.result (Atom c.in-Atom.name) a e;
    }

pub returns-in-Compound : goal.returns-in-Compound
returns-in-Compound c =
    let e = slot_read c.args.self.now.slots.items c.chain_end-end.result c.index.result.now c.index.ensures c.chain_end-end.ensures.within ∙ c.in-Compound.is in
    record {
      now = c.requires.linked.bound c.chain_end-end.result (Compound c.in-Compound.place) e;
      same = λ ds s a. c.chain_end-end.ensures.same ds s a ∙ agrees_bound (store_of c.args.self.now) ds s c.chain_end-end.result (Compound c.in-Compound.place) a e;
    }

pub returns-in_default : goal.returns-in_default
returns-in_default c =
    let e = slot_read c.args.self.now.slots.items c.chain_end-end.result c.index.result.now c.index.ensures c.chain_end-end.ensures.within in
    let f = only_free c.index.result.now (λ w q. c.chain_end-end.ensures.end w (e ∙ q)) c.in_default.not-Int c.in_default.not-Atom c.in_default.not-Compound in
    record {
      now = (f.0, record { within = c.chain_end-end.ensures.within; free = e ∙ f.1 });
      same = λ ds s a. c.chain_end-end.ensures.same ds s a;
    }
