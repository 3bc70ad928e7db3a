use Rattle.std.proofs.Common.{◌≡◌, length, ap, sym, ◌∙◌, subst, arith}
use Rattle.std.specs.Prelude.{IfOk}
use Rattle.std.proofs.Math.ListN.{length-map}
use Rattle.pp_algebra.specs.Terms.{count}
use Rattle.pp_propagation.specs.Stores.{face}
use Rattle.pp_row.specs.Columns.{set_by}
use Rattle.pp_store.specs.Queries.{AtGoal}
use Rattle.pp_row.proofs.ColumnLists.{count-trees_of}
use Rattle.pp_fix_tests.proofs.tests.stores.expect_applied.Goals as goal

pub apply-requires-clause-given : goal.apply-requires-clause-given
apply-requires-clause-given g c = λ a e.
    let columns = c.columns-columns.result.now in
    let domains = c.domains-domains.result.now in
    let is = subst (λ r. IfOk r (λ q. AtGoal c.args.goals.now c.args.goal (λ h. q ≡ face c.args.store.now.row h))) c.expect-face.ensures c.face.ensures in
    let given : count c.args.given.now.columns ≡ length columns = ap count (sym c.columns-columns.ensures.columns) ∙ count-trees_of columns in
    let same : length columns ≡ length domains = omega arith in
    let own : length (face c.args.store.now.row a.goal).domains ≡ length domains = ap (λ r. length r.domains) (sym (is a e)) ∙ ap length (sym c.domains-domains.ensures.domains) ∙ length-map domains set_by in
    given ∙ same ∙ sym own
