use Rattle.std.proofs.Common.{◌≡◌, ◌++◌, drop}
use Rattle.pp_language.specs.Answers.{lines}
use Rattle.pp_row.specs.Columns.{sets_of}
use Rattle.pp_print.specs.Marks.{marked_lines}
use Rattle.pp_print.proofs.stores.write_marked.Given as goal

abbrev pub invariant-loop-variable : goal.invariant-loop-variable
invariant-loop-variable l = l.out.items ++ lines (marked_lines l.marks l.variable (sets_of (drop l.variable l.domains))) ≡ l.initial.out.items ++ lines (marked_lines l.marks 0 (sets_of l.domains))
