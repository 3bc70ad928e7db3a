use Rattle.std.proofs.Common.{drop}
use Rattle.pp_print.proofs.Cells.{Writes}
use Rattle.pp_print.proofs.terms.write_term.Given as goal

abbrev pub invariant-loop-cell : goal.invariant-loop-cell
invariant-loop-cell l = Writes l.names l.term l.initial.out.items l.out.items l.unclosed.items (drop l.cell-index l.cell-items)
