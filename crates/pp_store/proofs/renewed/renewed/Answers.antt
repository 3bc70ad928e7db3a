use Rattle.std.proofs.Common.{sym, subst, All}
use Rattle.pp_algebra.specs.Terms.{put}
use Rattle.pp_row.specs.Cells.{IsLegalCell}
use Rattle.pp_row.specs.Columns.{trees_of}
use Rattle.pp_store.specs.Replacing.{replacement}
use Rattle.pp_store.proofs.Renewing.{written_so, one_term_so}
use Rattle.pp_store.proofs.renewed.renewed.Goals as goal

pub unreachable-requires : goal.unreachable-requires
unreachable-requires c =
    let s = replacement c.args.by.now.names.keys (trees_of c.args.by.now.terms.items) in
    let w = written_so s c.args.term.now c.cells.result.now c.in_ok-cells.cells.items c.cells.ensures.cells c.in_ok-cells.ensures.cells in
    c.in_default.ensures (put s c.args.term.now) (subst (All IsLegalCell) (sym w) c.in_ok-cells.ensures.legal) w

pub returns : goal.returns
returns c =
    let s = replacement c.args.by.now.names.keys (trees_of c.args.by.now.terms.items) in
    one_term_so c.in-Some.term (put s c.args.term.now) c.in_ok-cells.cells.items c.in-Some.ensures.1 (written_so s c.args.term.now c.cells.result.now c.in_ok-cells.cells.items c.cells.ensures.cells c.in_ok-cells.ensures.cells)
