use Rattle.std.proofs.lemmas.Result.{IfOk-weaker}
use Rattle.pp_algebra.specs.Solve.{equation}
use Rattle.pp_algebra.specs.Terms.{int, variable}
use Rattle.pp_heap.specs.declared.state.Value.TheVariants.{Int}
use Rattle.pp_heap.specs.Outcomes.{IsAnswer, IsVerdict}
use Rattle.pp_heap.proofs.Assigning.{now_fixed}
use Rattle.pp_heap.proofs.Words.{word}
use Rattle.pp_unify.proofs.HeadSteps.{answer_verdict}
use Rattle.pp_unify.proofs.Meeting.{values_verdict}
use Rattle.pp_unify.proofs.head.meet_int.Goals as goal

pub returns-in-Variable-clause-verdict : goal.returns-in-Variable-clause-verdict
returns-in-Variable-clause-verdict c =
    let a = c.args.state.now in
    let b = c.assign_int.new.self in
    let t = variable c.in-Variable.free in
    let u = int c.args.known in
    rw c.in-Variable.is (IfOk-weaker c.assign_int.result (IsAnswer a b t u) (IsVerdict a b (equation t u)) (λ r v. answer_verdict a b t u r v) (rw (word c.args.known c.requires.integer) at c.assign_int.ensures.answer))

pub returns-in_default-clause-verdict : goal.returns-in_default-clause-verdict
returns-in_default-clause-verdict c =
    let a = c.args.state.now in
    values_verdict a c.args.value (Int c.args.known) c.is_same_value.result c.requires.good (now_fixed a c.args.value c.requires.value c.in_default.not-Variable) c.requires.integer (λ p q e f. absurd (cc)) (rw (word c.args.known c.requires.integer) at c.is_same_value.ensures)
