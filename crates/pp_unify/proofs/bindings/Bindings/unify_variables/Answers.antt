use Rattle.std.proofs.Common.{◌<◌, length, refl, arith, subst}
use Rattle.std.proofs.lemmas.Result.{IfOk-weaker}
use Rattle.pp_algebra.specs.Solve.{equation, put_item}
use Rattle.pp_algebra.specs.Terms.{variable}
use Rattle.pp_heap.specs.Outcomes.{IsVerdict}
use Rattle.pp_unify.specs.States.{present, value_in, states_of, IsLonger, IsSolvedBy}
use Rattle.pp_unify.proofs.Kept.{kept_longer}
use Rattle.pp_unify.proofs.Among.{variable_below}
use Rattle.pp_unify.proofs.Verdicts.{present_row, count_present, solved_by}
use Rattle.pp_unify.proofs.bindings.Bindings.unify_variables.Goals as goal

pub unify_variables-requires-clause-one : goal.unify_variables-requires-clause-one
unify_variables-requires-clause-one c = omega (arith, c.requires.left, count_present c.self.inside.state c.args.self.now c.self.view_is)

pub unify_variables-requires-clause-other : goal.unify_variables-requires-clause-other
unify_variables-requires-clause-other c = omega (arith, c.requires.right, count_present c.self.inside.state c.args.self.now c.self.view_is)

pub returns-clause-solved : goal.returns-clause-solved
returns-clause-solved c =
    let old = c.self.inside.state in
    let new = c.unify_variables.new.state in
    let was = c.args.self.now in
    let item = equation (variable c.args.a) (variable c.args.b) in
    let n = count_present old was c.self.view_is in
    let one : c.args.a < length old.slots.items = omega (arith, c.requires.left, n) in
    let other : c.args.b < length old.slots.items = omega (arith, c.requires.right, n) in
    let later = c.unify_variables.ensures.later in
    IfOk-weaker c.unify_variables.result (IsVerdict old new item) (λ b. IsSolvedBy (present was) (put_item (value_in (present was)) item) b (present (states_of new)))
    (λ b v. solved_by old new item b (present was) (present (states_of new)) (present_row old was c.self.view_is) (present_row new (states_of new) refl) c.self.invariant later.good later.variables (variable_below (length old.slots.items) c.args.a one, variable_below (length old.slots.items) c.args.b other) v)
    c.unify_variables.ensures.verdict

pub returns-clause-kept : goal.returns-clause-kept
returns-clause-kept c = subst (λ rs. IsLonger rs (states_of c.unify_variables.new.state)) c.self.view_is (kept_longer c.self.inside.state c.unify_variables.new.state c.unify_variables.ensures.later.kept)
