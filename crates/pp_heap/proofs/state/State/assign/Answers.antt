use Rattle.pp_heap.proofs.state.State.assign.Goals as goal

pub returns-in-Compound-clause-answer : goal.returns-in-Compound-clause-answer
returns-in-Compound-clause-answer c = rw c.in-Compound.is c.assign_compound.ensures.answer
