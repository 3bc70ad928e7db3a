use Rattle.pp_print.proofs.Cells.{starts, ends_there, single_turn, several_turn}
use Rattle.pp_print.proofs.terms.write_term.Goals as goal
use Rattle.pp_print.proofs.terms.write_term.Goals.{then-arity-eq0+in_ok-write_behind, else-arity-eq0+in_ok-push}

pub loop-cell-init : goal.loop-cell-init
loop-cell-init c = rw c.new-unclosed.ensures.items (starts _ _ _ _ c.cells-cell-items.ensures.cells)

pub loop-cell-preserved : goal.loop-cell-preserved
loop-cell-preserved c =
    elim c.if-arity-eq0.branch [
      | then-arity-eq0+in_ok-write_behind w ↦ rw (w.out-is, w.unclosed-is) (single_turn _ _ _ c.loop-cell.out.items c.write_cell.new.out.items _ c.cells-cell-items.result.now _ c.arity-arity.result _ _ _ c.loop-cell-test.true c.loop-cell.invariant c.in_ok-write_cell.ensures c.arity-arity.ensures w.if-arity-eq0.true (w.in_ok-write_behind.ensures _))
      | else-arity-eq0+in_ok-push w ↦ rw (w.out-is, w.unclosed-is, w.in_ok-push.ensures.items) (several_turn _ _ _ c.loop-cell.out.items c.write_cell.new.out.items _ c.cells-cell-items.result.now _ c.arity-arity.result _ c.loop-cell-test.true c.loop-cell.invariant c.in_ok-write_cell.ensures c.arity-arity.ensures w.if-arity-eq0.false)
    ]

pub returns : goal.returns
returns c = ends_there _ _ _ c.loop-cell.out.items _ c.cells-cell-items.result.now _ c.loop-cell-test.false c.loop-cell.invariant
