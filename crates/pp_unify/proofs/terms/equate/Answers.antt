use Rattle.std.proofs.lemmas.Result.{IfOk-weaker}
use Rattle.pp_algebra.specs.Terms.{int}
use Rattle.pp_algebra.specs.Solve.{equation}
use Rattle.pp_algebra.specs.Numbered.{counted_from}
use Rattle.pp_heap.specs.Values.{term_at, value_term}
use Rattle.pp_heap.specs.Outcomes.{IsVerdict}
use Rattle.pp_heap.proofs.Words.{word}
use Rattle.pp_unify.proofs.Heaps.{compound_named, named_put}
use Rattle.pp_unify.proofs.Equations.{alike_itself, verdict_same}
use Rattle.std.proofs.Common.{refl}
use Rattle.pp_unify.proofs.Members.{named_apart}
use Rattle.pp_unify.proofs.terms.equate.Goals as goal

pub returns-in-Some-clause-verdict : goal.returns-in-Some-clause-verdict
returns-in-Some-clause-verdict c =
    let a = c.args.state.now in
    let b = c.unify_values.new.state in
    let t = counted_from c.args.first (term_at c.args.cells.now c.args.at) in
    let k = value_term a.heap.items c.in-Some.known in
    let z = c.args.value in
    IfOk-weaker c.unify_values.result (IsVerdict a b (equation k (int z))) (IsVerdict a b (equation t (int z)))
    (λ r v. verdict_same a a b t (int z) k (int z) r (alike_itself a) c.in-Some.ensures.value.same (λ ds s x. refl) v)
    (rw (word z c.requires.integer) at c.unify_values.ensures.verdict)

pub returns-in-None-clause-verdict : goal.returns-in-None-clause-verdict
returns-in-None-clause-verdict c =
    let k = rw c.in-None.is at c.leaf.ensures in
    let n = compound_named c.args.cells.now c.args.at c.requires.head.forest c.requires.within k in
    named_apart c.args.state.now (counted_from c.args.first (term_at c.args.cells.now c.args.at)) c.args.value (named_put _ _ n)
