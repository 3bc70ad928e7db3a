use Rattle.std.proofs.Common.{sym, ap, ◌∙◌}
use Rattle.std.specs.Prelude.{nat_eq}
use Rattle.pp_algebra.specs.Canon.{firsts}
use Rattle.pp_row.specs.Cells.{variables_in}
use Rattle.pp_row.proofs.Keys.{taken_number}
use Rattle.pp_store.proofs.rows.take_variable.Goals as goal

pub returns-in_ok-insert : goal.returns-in_ok-insert
returns-in_ok-insert c = taken_number c.args.names.now.keys c.insert.new.self.keys c.in-Var.variable c.in_ok-insert.ensures.keys ∙ ap (λ x. firsts nat_eq c.args.names.now.keys (variables_in x)) (sym c.in-Var.is)
