use Rattle.std.proofs.Common.{◌≤◌, length, rules}
use Rattle.std.proofs.lemmas.Result.{IfOk-weaker}
use Rattle.pp_algebra.specs.Solve.{equation}
use Rattle.pp_heap.specs.Values.{value_term}
use Rattle.pp_heap.specs.Outcomes.{IsVerdict}
use Rattle.pp_unify.specs.Heads.{HasMetVariable}
use Rattle.pp_unify.proofs.Stepping.{known_met, now_raised, new_met}
use Rattle.pp_unify.proofs.Wider.{onward_through}
use Rattle.pp_unify.proofs.head.meet_variable.Goals as goal

pub returns-then-number-len-clause-met : goal.returns-then-number-len-clause-met
returns-then-number-len-clause-met c =
    let a = c.args.state.now in
    let b = c.unify_values.new.state in
    let t = value_term a.heap.items c.args.value in
    let u = value_term a.heap.items c.value_of-known.result in
    IfOk-weaker c.unify_values.result (IsVerdict a b (equation t u)) (HasMetVariable a b t c.args.number)
    (λ r v. known_met a b t u c.args.number r c.unify_values.ensures.later c.value_of-known.ensures.same v)
    c.unify_values.ensures.verdict

pub add_bound-requires-clause-value : goal.add_bound-requires-clause-value
add_bound-requires-clause-value c = now_raised c.args.state.now c.add_up_to.new.state c.args.number c.args.value c.in_ok-add_up_to.ensures.raised c.requires.value

pub returns-in_err-add_bound-clause-onward : goal.returns-in_err-add_bound-clause-onward
returns-in_err-add_bound-clause-onward c = onward_through c.args.state.now c.add_up_to.new.state c.add_bound.new.state c.add_up_to.ensures.onward (record { good = c.add_bound.ensures.good; kept = c.add_bound.ensures.kept })

pub returns-in_ok-add_bound-clause-onward : goal.returns-in_ok-add_bound-clause-onward
returns-in_ok-add_bound-clause-onward c = onward_through c.args.state.now c.add_up_to.new.state c.add_bound.new.state c.add_up_to.ensures.onward (record { good = c.add_bound.ensures.good; kept = c.add_bound.ensures.kept })

pub returns-in_ok-add_bound-clause-met : goal.returns-in_ok-add_bound-clause-met
returns-in_ok-add_bound-clause-met c =
    let a = c.args.state.now in
    let l : length a.slots.items ≤ c.args.number = search rules in
    let e = c.in_ok-add_bound.ensures in
    new_met a c.add_up_to.new.state c.add_bound.new.state c.args.value c.args.number c.in_ok-add_bound.field-0 l c.in_ok-add_up_to.ensures.raised e.number e.added e.heap e.follows
