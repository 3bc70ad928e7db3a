use Rattle.std.proofs.Common.{◌≡◌, ◌<◌, length, ap, sym, subst}
use Rattle.std.proofs.lemmas.Result.{IfOk-weaker}
use Rattle.pp_algebra.specs.Solve.{equation}
use Rattle.pp_heap.specs.Values.{cell_at, term_at, value_term}
use Rattle.pp_heap.specs.Soundness.{IsCompound}
use Rattle.pp_heap.specs.Stores.{Store}
use Rattle.pp_heap.specs.Outcomes.{IsVerdict}
use Rattle.pp_heap.proofs.Calm.{later_through}
use Rattle.pp_unify.proofs.Equations.{verdict_open}
use Rattle.pp_unify.proofs.unify.unify_values.Goals as goal

pub returns-in-Apart-clause-verdict : goal.returns-in-Apart-clause-verdict
returns-in-Apart-clause-verdict c = rw c.in-Apart.is at c.in_ok-equate.ensures.met

pub returns-in-Done-clause-verdict : goal.returns-in-Done-clause-verdict
returns-in-Done-clause-verdict c = let met = rw c.in-Done.is at c.in_ok-equate.ensures.met in met.follows

pub unify_arguments-requires : goal.unify_arguments-requires
unify_arguments-requires c =
    let met = rw c.in-Open.is at c.in_ok-equate.ensures.met in
    let e = ap (λ (z : Store). z.heap) (sym met.0.store) in
    record {
      good = c.in_ok-equate.ensures.later.good;
      left = subst (λ cs. c.in-Open.left < length cs) e met.1.left_within;
      right = subst (λ cs. c.in-Open.right < length cs) e met.1.right_within;
      same = subst (λ cs. cell_at cs c.in-Open.left ≡ cell_at cs c.in-Open.right) e met.1.same;
      compound = subst (λ cs. IsCompound (cell_at cs c.in-Open.left)) e met.1.compound;
    }

pub returns-in-Open-clause-later : goal.returns-in-Open-clause-later
returns-in-Open-clause-later c = later_through c.args.state.now c.equate.new.state c.unify_arguments.new.state c.in_ok-equate.ensures.later c.unify_arguments.ensures.later

pub returns-in-Open-clause-verdict : goal.returns-in-Open-clause-verdict
returns-in-Open-clause-verdict c =
    let a = c.args.state.now in
    let b = c.equate.new.state in
    let d = c.unify_arguments.new.state in
    let t = value_term a.heap.items c.args.one in
    let u = value_term a.heap.items c.args.other in
    let met = rw c.in-Open.is at c.in_ok-equate.ensures.met in
    IfOk-weaker c.unify_arguments.result (IsVerdict b d (equation (term_at b.heap.items c.in-Open.left) (term_at b.heap.items c.in-Open.right))) (IsVerdict a d (equation t u))
    (λ r v. verdict_open a b d t u c.in-Open.left c.in-Open.right r met.0 met.1 v)
    c.unify_arguments.ensures.verdict
