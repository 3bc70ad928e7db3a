use Rattle.std.proofs.Common.{◌++◌, ap, sym, ◌∙◌, arith}
use Rattle.pp_row.specs.Cells.{cells_of}
use Rattle.pp_store.proofs.Renewing.{replaced_there, replaced_nowhere}
use Rattle.pp_store.proofs.renewed.push_variable.Goals as goal

pub returns-in_ok-extend_from_slice-in-Some-clause-cells : goal.returns-in_ok-extend_from_slice-in-Some-clause-cells
returns-in_ok-extend_from_slice-in-Some-clause-cells c =
    c.in_ok-extend_from_slice-in-Some.ensures.items
    ∙ ap (λ cs. c.args.out.now.items ++ cs) (c.cells.ensures.cells ∙ ap (λ t. cells_of t) (sym (replaced_there c.args.by.now.names.keys c.args.by.now.terms.items c.args.variable c.in-Some.place c.index.result.now c.in-Some.ensures.found c.in-Some.ensures.index (omega (arith, c.requires.many, c.in-Some.ensures.within)) c.index.ensures)))

pub returns-in_ok-push-in-None-clause-cells : goal.returns-in_ok-push-in-None-clause-cells
returns-in_ok-push-in-None-clause-cells c =
    c.in_ok-push-in-None.ensures.items
    ∙ ap (λ t. c.args.out.now.items ++ cells_of t) (sym (replaced_nowhere c.args.by.now.names.keys c.args.by.now.terms.items c.args.variable c.in-None.ensures.found))
