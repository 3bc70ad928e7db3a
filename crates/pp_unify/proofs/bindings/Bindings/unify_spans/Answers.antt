use Rattle.std.proofs.Common.{refl, ◌^◌, ◌≤◌, length, subst, arith}
use Rattle.std.proofs.lemmas.Result.{IfOk-weaker}
use Rattle.pp_row.specs.Reading.{forest}
use Rattle.pp_unify.specs.States.{present, states_of, IsLonger}
use Rattle.pp_unify.specs.Forests.{pairs, AreDecided}
use Rattle.pp_unify.specs.Joining.{AreJoined}
use Rattle.pp_unify.proofs.Kept.{kept_longer}
use Rattle.pp_unify.proofs.Verdicts.{present_row}
use Rattle.pp_unify.proofs.Decided.{over_head, over_below, joined_row}
use Rattle.pp_unify.proofs.bindings.Bindings.unify_spans.Goals as goal

pub unify_lists-requires-clause-goal : goal.unify_lists-requires-clause-goal
unify_lists-requires-clause-goal c = over_head c.self.inside.state c.args.self.now c.args.a_first c.args.a.now c.self.view_is c.requires.left_whole c.requires.left

pub unify_lists-requires-clause-fits : goal.unify_lists-requires-clause-fits
unify_lists-requires-clause-fits c = λ p v e.
    let few : length c.self.inside.state.slots.items ≤ 2 ^ 32 = c.self.invariant.few in
    let l = (over_head c.self.inside.state c.args.self.now c.args.b_first c.args.b.now c.self.view_is c.requires.right_whole c.requires.right).among p v e in
    omega (arith, few, l)

pub returns-clause-decided : goal.returns-clause-decided
returns-clause-decided c =
    let old = c.self.inside.state in
    let new = c.unify_lists.new.state in
    let was = c.args.self.now in
    let n = c.args.a_first in
    let m = c.args.b_first in
    let a = c.args.a.now in
    let b = c.args.b.now in
    let x = over_below old was n (forest a) c.self.view_is c.requires.left in
    let y = over_below old was m (forest b) c.self.view_is c.requires.right in
    IfOk-weaker c.unify_lists.result (AreJoined old new n a m b) (λ r. AreDecided (present was) (pairs n (forest a) m (forest b)) r (present (states_of new)))
    (λ r v.
    subst (λ q. AreDecided q (pairs n (forest a) m (forest b)) r (present (states_of new))) (present_row old was c.self.view_is)
    (subst (AreDecided _ _ r) (present_row new (states_of new) refl) (joined_row old new n a m b r c.self.invariant c.unify_lists.ensures.onward.good c.requires.width x y c.requires.right_whole v)))
    c.unify_lists.ensures.joined

pub returns-clause-kept : goal.returns-clause-kept
returns-clause-kept c = subst (λ rs. IsLonger rs (states_of c.unify_lists.new.state)) c.self.view_is (kept_longer c.self.inside.state c.unify_lists.new.state c.unify_lists.ensures.onward.kept)
