use Rattle.std.proofs.Common.{◌≡◌, arith, add-one, subst}
use Rattle.pp_algebra.specs.Numbered.{variables_from}
use Rattle.pp_row.specs.Columns.{trees_of}
use Rattle.pp_row.proofs.ColumnLists.{from_push}
use Rattle.pp_store.proofs.rows.variables.Goals as goal

pub loop-variable-preserved : goal.loop-variable-preserved
loop-variable-preserved c = rw (c.in_ok-push.ensures.items, c.in_ok-variable.ensures, add-one) (from_push c.loop-variable.columns.items 0 c.loop-variable.variable c.loop-variable.variable (omega arith) c.loop-variable.invariant)

pub returns : goal.returns
returns c =
    let e : c.loop-variable.variable ≡ c.args.count = omega arith in
    subst (λ n. trees_of c.loop-variable.columns.items ≡ variables_from 0 n) e c.loop-variable.invariant
