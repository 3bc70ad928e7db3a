use Rattle.std.proofs.Common.{◌<◌, length, refl, subst, arith}
use Rattle.std.proofs.lemmas.Result.{IfOk-weaker}
use Rattle.pp_algebra.specs.Solve.{membership, put_item}
use Rattle.pp_algebra.specs.Terms.{variable}
use Rattle.pp_domain.specs.Sets.{set_of}
use Rattle.pp_heap.specs.Outcomes.{IsVerdict}
use Rattle.pp_unify.specs.States.{present, value_in, states_of, IsLonger, IsSolvedBy}
use Rattle.pp_unify.proofs.Kept.{kept_longer}
use Rattle.pp_unify.proofs.Among.{variable_below}
use Rattle.pp_unify.proofs.Verdicts.{present_row, count_present, solved_by}
use Rattle.pp_unify.proofs.bindings.Bindings.narrow.Goals as goal

pub narrow-requires-clause-within : goal.narrow-requires-clause-within
narrow-requires-clause-within c = omega (arith, c.requires.within, count_present c.self.inside.state c.args.self.now c.self.view_is)

pub returns-clause-solved : goal.returns-clause-solved
returns-clause-solved c =
    let old = c.self.inside.state in
    let new = c.narrow.new.self in
    let was = c.args.self.now in
    let item = membership (variable c.args.variable) (set_of c.args.domain.now) in
    let within : c.args.variable < length old.slots.items = omega (arith, c.requires.within, count_present old was c.self.view_is) in
    IfOk-weaker c.narrow.result (IsVerdict old new item) (λ b. IsSolvedBy (present was) (put_item (value_in (present was)) item) b (present (states_of new)))
    (λ b v. solved_by old new item b (present was) (present (states_of new)) (present_row old was c.self.view_is) (present_row new (states_of new) refl) c.self.invariant c.narrow.ensures.later.good c.narrow.ensures.later.variables (variable_below (length old.slots.items) c.args.variable within) v)
    c.narrow.ensures.verdict

pub returns-clause-kept : goal.returns-clause-kept
returns-clause-kept c = subst (λ rs. IsLonger rs (states_of c.narrow.new.self)) c.self.view_is (kept_longer c.self.inside.state c.narrow.new.self c.narrow.ensures.later.kept)
