use Rattle.std.proofs.Common.{length, ap, sym, ◌∙◌, subst, arith, get_or, pos}
use Rattle.pp_row.specs.declared.cell.Cell.TheVariants.{Int}
use Rattle.pp_row.specs.Cells.{IsLegalCell}
use Rattle.pp_store.proofs.Narrowing.{has_cells, first_cell_is, first_legal}
use Rattle.pp_store.proofs.begin.top.Goals as goal

pub bounds-cells-0 : goal.bounds-cells-0
bounds-cells-0 c = omega (arith, has_cells c.args.term.now, ap length c.cells.ensures.cells)

pub returns : goal.returns
returns c =
    let e = ap (λ cs. get_or cs 0 (Int (pos 0))) c.cells.ensures.cells ∙ first_cell_is c.args.term.now (Int (pos 0)) in
    record { top = e; legal = subst IsLegalCell (sym e) (first_legal c.args.term.now c.cells.ensures.term) }
