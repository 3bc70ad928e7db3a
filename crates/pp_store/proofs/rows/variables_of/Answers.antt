use Rattle.std.proofs.Common.{◌<◌, length, ap, sym, ◌∙◌, arith}
use Rattle.std.specs.Prelude.{nat_eq}
use Rattle.pp_algebra.specs.Canon.{firsts}
use Rattle.pp_algebra.specs.Terms.{variables}
use Rattle.pp_row.proofs.Renaming.{among-cells_of}
use Rattle.pp_row.specs.Cells.{variables_among}
use Rattle.pp_store.proofs.Applying.{names_next}
use Rattle.pp_store.proofs.rows.variables_of.Goals as goal

pub loop-term-preserved : goal.loop-term-preserved
loop-term-preserved c =
    let l : c.loop-term.term-index < length c.args.terms.now = omega arith in
    c.in_ok-take_variables.ensures
    ∙ ap (λ cs. firsts nat_eq c.loop-term.names.keys (variables_among cs)) c.cells.ensures.cells
    ∙ ap (firsts nat_eq c.loop-term.names.keys) (among-cells_of c.term-item.result)
    ∙ ap (λ ns. firsts nat_eq ns (variables c.term-item.result)) c.loop-term.invariant
    ∙ sym (names_next c.args.terms.now c.loop-term.term-index c.term-item.result l c.term-item.is)
