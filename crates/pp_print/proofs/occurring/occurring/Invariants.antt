use Rattle.pp_print.proofs.Marked.{MarksFirst}
use Rattle.pp_print.proofs.occurring.occurring.Given as goal

abbrev pub invariant-loop-term : goal.invariant-loop-term
invariant-loop-term l = MarksFirst l.variables l.terms l.term-index l.marks.items
