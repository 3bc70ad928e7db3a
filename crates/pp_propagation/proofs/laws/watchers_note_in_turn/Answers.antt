use Rattle.pp_propagation.proofs.Watching.{noted_in_turn, nothing_noted}
use Rattle.pp_propagation.proofs.laws.watchers_note_in_turn.Goals as goal

pub returns-clause-in_turn : goal.returns-clause-in_turn
returns-clause-in_turn c = noted_in_turn

pub returns-clause-nothing : goal.returns-clause-nothing
returns-clause-nothing c = nothing_noted
