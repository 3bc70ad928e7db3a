use Rattle.std.proofs.lemmas.Result.{IfOk-weaker}
use Rattle.pp_algebra.specs.Solve.{equation}
use Rattle.pp_algebra.specs.Terms.{variable}
use Rattle.pp_heap.specs.Values.{value_term}
use Rattle.pp_heap.specs.Outcomes.{IsVerdict}
use Rattle.pp_unify.proofs.Equations.{alike_itself, verdict_same}
use Rattle.pp_unify.proofs.unify.unify_variables.Goals as goal

pub returns-clause-verdict : goal.returns-clause-verdict
returns-clause-verdict c =
    let a = c.args.state.now in
    let b = c.unify_values.new.state in
    let t = value_term a.heap.items c.value_of-left.result in
    let u = value_term a.heap.items c.value_of-right.result in
    IfOk-weaker c.unify_values.result (IsVerdict a b (equation t u)) (IsVerdict a b (equation (variable c.args.one) (variable c.args.other)))
    (λ r v. verdict_same a a b (variable c.args.one) (variable c.args.other) t u r (alike_itself a) c.value_of-left.ensures.same c.value_of-right.ensures.same v)
    c.unify_values.ensures.verdict
