use Rattle.std.proofs.Common.{refl, sym, subst, length, arith}
use Rattle.std.proofs.lemmas.Result.{IfOk-weaker}
use Rattle.pp_algebra.specs.Terms.{count}
use Rattle.pp_row.specs.Reading.{forest}
use Rattle.pp_unify.specs.States.{present, states_of, with_many, IsLonger}
use Rattle.pp_unify.specs.Forests.{pairs, AreDecided}
use Rattle.pp_unify.specs.Joining.{IsEntered}
use Rattle.pp_unify.proofs.Kept.{kept_longer}
use Rattle.pp_unify.proofs.Verdicts.{present_row, count_present}
use Rattle.pp_unify.proofs.Decided.{over_head, over_below, cells_below, entered_row}
use Rattle.pp_unify.proofs.bindings.Bindings.enter.Goals as goal

pub enter-requires-clause-goal : goal.enter-requires-clause-goal
enter-requires-clause-goal c = over_head c.self.inside.state c.args.self.now c.args.first c.args.goal.now c.self.view_is c.requires.goal_whole c.requires.goal

pub enter-requires-clause-below : goal.enter-requires-clause-below
enter-requires-clause-below c = cells_below c.args.amount 0 c.args.head.now c.requires.head_whole (λ v i. let h = c.requires.head v i in omega (arith, h))

pub returns-clause-entered : goal.returns-clause-entered
returns-clause-entered c =
    let old = c.self.inside.state in
    let new = c.enter.new.state in
    let was = c.args.self.now in
    let n = c.args.first in
    let goal = c.args.goal.now in
    let head = c.args.head.now in
    let k = c.args.amount in
    let x = over_below old was n (forest goal) c.self.view_is c.requires.goal in
    IfOk-weaker c.enter.result (IsEntered old new n goal head k) (λ b. AreDecided (with_many (present was) k) (pairs (count (present was).columns) (forest head) n (forest goal)) b (present (states_of new)))
    (λ b v.
    subst (λ m. AreDecided (with_many (present was) k) (pairs m (forest head) n (forest goal)) b (present (states_of new))) (sym (count_present old was c.self.view_is))
    (subst (λ r. AreDecided (with_many r k) (pairs (length old.slots.items) (forest head) n (forest goal)) b (present (states_of new))) (present_row old was c.self.view_is)
    (subst (AreDecided _ _ b) (present_row new (states_of new) refl) (entered_row old new n goal head k b c.self.invariant c.enter.ensures.onward.good c.requires.width x c.requires.head v))))
    c.enter.ensures.entered

pub returns-clause-kept : goal.returns-clause-kept
returns-clause-kept c = subst (λ rs. IsLonger rs (states_of c.enter.new.state)) c.self.view_is (kept_longer c.self.inside.state c.enter.new.state c.enter.ensures.onward.kept)
