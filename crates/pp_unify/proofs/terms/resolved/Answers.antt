use Rattle.std.proofs.Common.{◌≡◌, ℕ, subst, sym, IfOk}
use Rattle.pp_algebra.specs.Terms.{Tree, put}
use Rattle.pp_heap.specs.Stores.{solution}
use Rattle.pp_unify.proofs.Grown.{cells_among}
use Rattle.pp_unify.proofs.Resolving.{resolved_cells, written}
use Rattle.pp_unify.proofs.terms.resolved.Goals as goal

pub resolve_cell-requires-clause-within : goal.resolve_cell-requires-clause-within
resolve_cell-requires-clause-within c = cells_among c.args.state.now.slots.items c.args.term.now c.cells-cell-items.result.now c.cells-cell-items.ensures.cells c.requires.among c.loop-cell.cell-index

pub returns : goal.returns
returns c =
    let u = put (solution c.args.state.now) c.args.term.now in
    let e = resolved_cells (solution c.args.state.now) c.args.term.now c.cells-cell-items.result.now c.loop-cell.cells.items c.loop-cell.cell-index c.cells-cell-items.ensures.cells c.loop-cell-test.false c.loop-cell.invariant in
    subst (λ r. IfOk r (λ (t : Tree ℕ). t ≡ u)) (sym c.ok_or.ensures.value) (written u c.loop-cell.cells.items c.from_cells.result _ e c.from_cells.ensures)
