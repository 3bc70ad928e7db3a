use Rattle.std.proofs.lemmas.Result.{IfOk-weaker}
use Rattle.pp_algebra.specs.Terms.{variable, int}
use Rattle.pp_algebra.specs.Solve.{membership}
use Rattle.pp_algebra.specs.Numbered.{counted_from}
use Rattle.pp_domain.specs.Sets.{set_of}
use Rattle.pp_heap.specs.Values.{term_at}
use Rattle.pp_heap.specs.Outcomes.{IsVerdict}
use Rattle.pp_heap.proofs.Assigning.{verdict_same, fixed_excludes, now_fixed}
use Rattle.pp_heap.proofs.Words.{word}
use Rattle.pp_unify.proofs.Heaps.{compound_named, named_put}
use Rattle.pp_unify.proofs.Members.{has_verdict, named_out}
use Rattle.pp_unify.proofs.terms.narrow.Goals as goal

pub returns-in-Variable-clause-verdict : goal.returns-in-Variable-clause-verdict
returns-in-Variable-clause-verdict c =
    let a = c.args.state.now in
    let b = c.narrow.new.self in
    let t = counted_from c.args.first (term_at c.args.cells.now c.args.at) in
    let d = set_of c.args.domain.now in
    let v = rw c.in-Variable.is at c.in-Some.ensures.value in
    IfOk-weaker c.narrow.result (IsVerdict a b (membership (variable c.in-Variable.free) d)) (IsVerdict a b (membership t d)) (λ r h. verdict_same a b t (variable c.in-Variable.free) d r v.same h) c.narrow.ensures.verdict

pub returns-in-Int-clause-verdict : goal.returns-in-Int-clause-verdict
returns-in-Int-clause-verdict c =
    let a = c.args.state.now in
    let t = counted_from c.args.first (term_at c.args.cells.now c.args.at) in
    let d = set_of c.args.domain.now in
    let v = rw c.in-Int.is at c.in-Some.ensures.value in
    let e = rw (word c.in-Int.value v.now) at c.has.ensures in
    verdict_same a a t (int c.in-Int.value) d c.has.result v.same (has_verdict a c.in-Int.value d c.has.result e)

pub returns-in_default-clause-verdict : goal.returns-in_default-clause-verdict
returns-in_default-clause-verdict c =
    let k = rw c.in_default.is at c.leaf.ensures in
    let n = compound_named c.args.cells.now c.args.at c.requires.head.forest c.requires.within k in
    named_out c.args.state.now (counted_from c.args.first (term_at c.args.cells.now c.args.at)) (set_of c.args.domain.now) (named_put _ _ n)

pub returns-in_default-known-clause-verdict : goal.returns-in_default-known-clause-verdict
returns-in_default-known-clause-verdict c =
    let a = c.args.state.now in
    let t = counted_from c.args.first (term_at c.args.cells.now c.args.at) in
    let v = c.in-Some.ensures.value in
    fixed_excludes a t c.in-Some.known (set_of c.args.domain.now) c.requires.good v.same (now_fixed a c.in-Some.known v.now c.in_default-known.not-Variable) c.in_default-known.not-Int
