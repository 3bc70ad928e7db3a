use Rattle.std.proofs.Common.{◌++◌, ap, sym, ◌∙◌}
use Rattle.pp_row.specs.Columns.{trees_of}
use Rattle.pp_row.specs.Substitution.{put_cell}
use Rattle.pp_store.specs.Replacing.{replacement}
use Rattle.pp_store.proofs.Renewing.{no_variable}
use Rattle.pp_store.proofs.renewed.push_renewed.Goals as goal

pub returns-in_ok-push_variable-in-Var-clause-cells : goal.returns-in_ok-push_variable-in-Var-clause-cells
returns-in_ok-push_variable-in-Var-clause-cells c =
    c.in_ok-push_variable-in-Var.ensures.cells ∙ ap (λ x. c.args.out.now.items ++ put_cell (replacement c.args.by.now.names.keys (trees_of c.args.by.now.terms.items)) x) (sym c.in-Var.is)

pub returns-in_ok-push-in_default-clause-cells : goal.returns-in_ok-push-in_default-clause-cells
returns-in_ok-push-in_default-clause-cells c =
    c.in_ok-push-in_default.ensures.items ∙ ap (λ cs. c.args.out.now.items ++ cs) (sym (no_variable (replacement c.args.by.now.names.keys (trees_of c.args.by.now.terms.items)) c.args.cell c.in_default.not-Var))
