use Rattle.std.proofs.Common.{ap, ◌∙◌, length, arith}
use Rattle.pp_row.specs.Cells.{cells_of}
use Rattle.pp_print.proofs.Marked.{written_back, marks_more}
use Rattle.pp_print.proofs.occurring.occurring.Goals as goal

pub loop-term-preserved : goal.loop-term-preserved
loop-term-preserved c =
    let old = c.loop-term.marks.items in
    let size = c.mark.auto.marks ∙ ap length c.deref_mut.ensures.value in
    rw (written_back c.mark.new.marks old c.loop-term.marks.len (omega (arith, c.loop-term.marks.ok.0)) size)
    (marks_more c.args.variables c.args.terms.now c.loop-term.term-index c.term-item.result c.cells.result.now old c.mark.new.marks c.loop-term-test.true c.loop-term.invariant (c.cells.ensures.cells ∙ ap cells_of c.term-item.is) size (rw c.deref_mut.ensures.value at c.mark.ensures))
