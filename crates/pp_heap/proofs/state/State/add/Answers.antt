use Rattle.pp_heap.proofs.Keeping.{kept_through}
use Rattle.pp_heap.proofs.state.State.add.Goals as goal

pub returns-clause-kept : goal.returns-clause-kept
returns-clause-kept c = kept_through c.args.self.now c.hold_any.new.self c.add_slot.new.self c.in_ok-place.ensures.calm.kept c.add_slot.ensures.kept
