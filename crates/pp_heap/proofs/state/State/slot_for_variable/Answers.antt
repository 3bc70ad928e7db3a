use Rattle.std.proofs.Common.{◌∙◌, refl}
use Rattle.pp_heap.specs.declared.state.Value.TheVariants.{Variable}
use Rattle.pp_heap.specs.Stores.{store_of}
use Rattle.pp_heap.proofs.Slots.{slot_read, agrees_bound, fixed_slot}
use Rattle.pp_heap.proofs.state.State.slot_for_variable.Goals as goal

pub returns-in-Free : goal.returns-in-Free
returns-in-Free c =
    let e = slot_read c.args.self.now.slots.items c.chain_end-last.result c.index.result.now c.index.ensures c.chain_end-last.ensures.within ∙ c.in-Free.is in (
      Variable c.chain_end-last.result,
      refl,
      record {
        now = (c.in-Free.field-0, record { within = c.chain_end-last.ensures.within; free = e });
        same = λ ds s a. c.chain_end-last.ensures.same ds s a;
      },
    )

pub returns-in_default : goal.returns-in_default
returns-in_default c =
    let st = store_of c.args.self.now in
    let end = c.chain_end-last.result in
    let e = slot_read st.slots end c.index.result.now c.index.ensures c.chain_end-last.ensures.within in
    let f = fixed_slot st end c.index.result.now c.requires.linked e (λ w q. c.chain_end-last.ensures.end w (e ∙ q)) c.in_default.not-Free in (
      f.0,
      f.1,
      record { now = f.2; same = λ ds s a. c.chain_end-last.ensures.same ds s a ∙ agrees_bound st ds s end f.0 a (e ∙ f.1) },
    )
