use Rattle.pp_propagation.proofs.Worked.{face_is_numbered, row_is_applied, changed_are_woken, goals_take_turns}
use Rattle.pp_propagation.proofs.examples.worked_turns.Goals as goal

pub returns-clause-face_is_numbered : goal.returns-clause-face_is_numbered
returns-clause-face_is_numbered c = face_is_numbered

pub returns-clause-row_is_applied : goal.returns-clause-row_is_applied
returns-clause-row_is_applied c = row_is_applied

pub returns-clause-changed_are_woken : goal.returns-clause-changed_are_woken
returns-clause-changed_are_woken c = changed_are_woken

pub returns-clause-goals_take_turns : goal.returns-clause-goals_take_turns
returns-clause-goals_take_turns c = goals_take_turns
