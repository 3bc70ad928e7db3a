use Rattle.std.proofs.Common.{◌≡◌, length, ap, sym, ◌∙◌, subst, arith, add-one, rules}
use Rattle.pp_algebra.specs.Numbered.{call, variables_from}
use Rattle.pp_algebra.specs.Rows.{AreWide}
use Rattle.pp_row.specs.Columns.{trees_of, sets_of, row_by}
use Rattle.pp_row.proofs.ColumnLists.{from_push, call_is_row, called}
use Rattle.pp_row.proofs.row.Row.call.Goals as goal

pub loop-variable-preserved : goal.loop-variable-preserved
loop-variable-preserved c =
    let e : c.in_ok-number.number ≡ c.loop-variable.variable = search rules in
    rw (c.in_ok-push.ensures.items, c.in_ok-variable.ensures, add-one) (from_push c.loop-variable.columns.items 0 c.loop-variable.variable c.in_ok-number.number (omega (arith, e)) c.loop-variable.invariant)

pub invariant_of-result : goal.invariant_of-result
invariant_of-result c =
    let d = c.in_ok-copy_domains.ensures ∙ c.as_slice.ensures.value in
    let e : c.loop-variable.variable ≡ length c.in_ok-copy_domains.field-0.items = omega (arith, ap length d) in
    call_is_row c.in_ok-copy_domains.field-0.items c.loop-variable.columns.items (subst (λ n. trees_of c.loop-variable.columns.items ≡ variables_from 0 n) e c.loop-variable.invariant) (subst (λ ds. AreWide (sets_of ds)) (sym d) c.self.invariant.wide)

pub returns : goal.returns
returns c =
    let d = c.in_ok-copy_domains.ensures ∙ c.as_slice.ensures.value in
    let e : c.loop-variable.variable ≡ length c.in_ok-copy_domains.field-0.items = omega (arith, ap length d) in
    called c.in_ok-copy_domains.field-0.items c.loop-variable.columns.items (subst (λ n. trees_of c.loop-variable.columns.items ≡ variables_from 0 n) e c.loop-variable.invariant) c.self.inside.columns.items
    ∙ ap (λ ds. call (row_by c.self.inside.columns.items ds)) d ∙ ap call c.self.view_is
