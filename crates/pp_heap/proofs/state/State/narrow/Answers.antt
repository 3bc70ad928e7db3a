use Rattle.std.proofs.lemmas.Result.{IfOk-weaker}
use Rattle.pp_algebra.specs.Terms.{variable}
use Rattle.pp_algebra.specs.Solve.{membership}
use Rattle.pp_domain.specs.Sets.{set_of}
use Rattle.pp_heap.specs.Outcomes.{IsVerdict}
use Rattle.pp_heap.proofs.Assigning.{verdict_same, fixed_excludes, now_fixed}
use Rattle.pp_heap.proofs.state.State.narrow.Goals as goal

pub returns-in-Variable-clause-verdict : goal.returns-in-Variable-clause-verdict
returns-in-Variable-clause-verdict c =
    let a = c.args.self.now in
    let b = c.narrow_free.new.self in
    let d = set_of c.args.domain.now in
    IfOk-weaker c.narrow_free.result (IsVerdict a b (membership (variable c.in-Variable.free) d)) (IsVerdict a b (membership (variable c.args.number) d)) (λ r h. verdict_same a b (variable c.args.number) (variable c.in-Variable.free) d r c.in-Variable.ensures.same h) c.narrow_free.ensures.verdict

pub returns-in_default-clause-verdict : goal.returns-in_default-clause-verdict
returns-in_default-clause-verdict c =
    let a = c.args.self.now in
    let v = c.value_of.ensures in
    fixed_excludes a (variable c.args.number) c.value_of.result (set_of c.args.domain.now) c.requires.good v.same (now_fixed a c.value_of.result v.now c.in_default.not-Variable) c.in_default.not-Int
