use Rattle.std.proofs.Common.{sym, ap, ◌∙◌, subst}
use Rattle.pp_row.specs.Reading.{IsForest, forest}
use Rattle.pp_resolve.proofs.FreeRows.{cells_more}
use Rattle.pp_resolve.proofs.start.cells_of.Goals as goal

pub loop-term-preserved : goal.loop-term-preserved
loop-term-preserved c =
    let items = c.in_ok-extend_from_slice.ensures.items in
    let k = cells_more c.args.terms.now c.loop-term.term-index c.term-item.result c.loop-term.cells.items c.cells.result.now c.loop-term-test.true c.term-item.is c.loop-term.invariant.whole c.loop-term.invariant.terms c.cells.ensures.cells c.cells.ensures.term in
    record { whole = subst IsForest (sym items) k.0; terms = ap forest items ∙ k.1 }
