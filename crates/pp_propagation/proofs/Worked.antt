-- The worked examples hold.
use Rattle.std.proofs.Common.{refl}
use Rattle.std.specs.Fmt.{digits}
use Rattle.pp_propagation.specs.Examples.{FaceIsNumbered, RowIsApplied, ChangedAreWoken, GoalsTakeTurns, HistoryIsRead, LastVerdictCounts, AnswerIsWritten, WatchersLeave, ChangesAreTold}

pub face_is_numbered : FaceIsNumbered
face_is_numbered = refl

pub row_is_applied : RowIsApplied
row_is_applied = (refl, refl)

pub changed_are_woken : ChangedAreWoken
changed_are_woken = (refl, refl, refl)

pub goals_take_turns : GoalsTakeTurns
goals_take_turns = (refl, refl)

pub history_is_read : HistoryIsRead
history_is_read = (refl, refl, refl)

pub last_verdict_counts : LastVerdictCounts
last_verdict_counts = (refl, refl, refl)

pub answer_is_written : AnswerIsWritten
unfolding digits
answer_is_written = (refl, refl, refl)

pub watchers_leave : WatchersLeave
watchers_leave = (refl, refl, refl)

pub changes_are_told : ChangesAreTold
unfolding digits
changes_are_told = (refl, refl)
