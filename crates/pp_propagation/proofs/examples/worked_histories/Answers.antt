use Rattle.pp_propagation.proofs.Worked.{history_is_read, last_verdict_counts, answer_is_written, watchers_leave, changes_are_told}
use Rattle.pp_propagation.proofs.examples.worked_histories.Goals as goal

pub returns-clause-history_is_read : goal.returns-clause-history_is_read
returns-clause-history_is_read c = history_is_read

pub returns-clause-last_verdict_counts : goal.returns-clause-last_verdict_counts
returns-clause-last_verdict_counts c = last_verdict_counts

pub returns-clause-answer_is_written : goal.returns-clause-answer_is_written
returns-clause-answer_is_written c = answer_is_written

pub returns-clause-watchers_leave : goal.returns-clause-watchers_leave
returns-clause-watchers_leave c = watchers_leave

pub returns-clause-changes_are_told : goal.returns-clause-changes_are_told
returns-clause-changes_are_told c = changes_are_told
