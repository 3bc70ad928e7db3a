use Rattle.std.proofs.Common.{[], refl, subst, arith}
use Rattle.pp_algebra.specs.Least.{arguments}
use Rattle.pp_heap.specs.Values.{term_at}
use Rattle.pp_heap.specs.Stores.{solution}
use Rattle.pp_heap.proofs.Sizes.{weight-less}
use Rattle.pp_heap.proofs.Walk.{one}
use Rattle.pp_algebra.specs.Terms.{put}
use Rattle.pp_heap.proofs.Solutions.{own_domains, solution_agrees}
use Rattle.pp_heap.specs.Stores.{store_of}
use Rattle.pp_heap.specs.Soundness.{IsCompound}
use Rattle.pp_unify.specs.Pairs.{Pushes}
use Rattle.pp_unify.proofs.Pairs.{pair_pop}
use Rattle.pp_unify.proofs.PairSteps.{opened_equal, opened_less, popped_equal, popped_sizes}
use Rattle.pp_unify.proofs.cover.are_same.Goals as goal

pub loop-pair-init : goal.loop-pair-init
loop-pair-init c =
    let t = c.args.state.now in
    let h = t.heap.items in
    let l = c.args.left in
    let r = c.args.right in
    let now = c.push_pair_arguments.new.work.items in
    let w : Pushes h [] now (arguments (term_at h l)) (arguments (term_at h r)) = subst (λ ws. Pushes h ws now (arguments (term_at h l)) (arguments (term_at h r))) c.clear.ensures.items c.in_ok-push_pair_arguments.ensures in
    record {
      all = w.all;
      same = λ q. ((opened_equal h (solution t) [] now (term_at h l) (term_at h r) l r c.requires.good.linked.forest c.requires.left c.requires.right c.requires.compound c.requires.same refl refl w).0 q).1;
    }

pub push_pair_rest-requires-clause-pair : goal.push_pair_rest-requires-clause-pair
push_pair_rest-requires-clause-pair c = (pair_pop c.args.state.now.heap.items c.loop-pair.work.items c.pop.new.self.items c.in-Some.pair c.in-Some.ensures.items c.loop-pair.invariant.all).1

pub look-requires-clause-right : goal.look-requires-clause-right
look-requires-clause-right c = (pair_pop c.args.state.now.heap.items c.loop-pair.work.items c.pop.new.self.items c.in-Some.pair c.in-Some.ensures.items c.loop-pair.invariant.all).1.right.within

pub loop-pair-smaller-in-Same : goal.loop-pair-smaller-in-Same
loop-pair-smaller-in-Same c =
    let t = c.args.state.now in
    let h = t.heap.items in
    let p = pair_pop h c.loop-pair.work.items c.pop.new.self.items c.in-Some.pair c.in-Some.ensures.items c.loop-pair.invariant.all in
    let z = popped_sizes h (solution t) c.loop-pair.work.items c.pop.new.self.items c.push_pair_rest.new.work.items c.in-Some.pair c.in-Some.ensures.items p.1 c.in_ok-push_pair_rest.ensures in
    let o = one (put (solution t) (term_at h c.in-Some.pair.left)) in
    weight-less 0 _ _ (omega (arith, z, o))

pub loop-pair-preserved-in-Same : goal.loop-pair-preserved-in-Same
loop-pair-preserved-in-Same c =
    let t = c.args.state.now in
    let h = t.heap.items in
    let p = pair_pop h c.loop-pair.work.items c.pop.new.self.items c.in-Some.pair c.in-Some.ensures.items c.loop-pair.invariant.all in
    let k = popped_equal h (solution t) c.loop-pair.work.items c.pop.new.self.items c.push_pair_rest.new.work.items c.in-Some.pair c.in-Some.ensures.items p.1 c.in_ok-push_pair_rest.ensures in
    record { all = c.in_ok-push_pair_rest.ensures.all; same = λ q. c.loop-pair.invariant.same (k.1 (q, c.in-Same.ensures)) }

pub loop-pair-smaller : goal.loop-pair-smaller
loop-pair-smaller c =
    let t = c.args.state.now in
    let h = t.heap.items in
    let p = pair_pop h c.loop-pair.work.items c.pop.new.self.items c.in-Some.pair c.in-Some.ensures.items c.loop-pair.invariant.all in
    let z = popped_sizes h (solution t) c.loop-pair.work.items c.pop.new.self.items c.push_pair_rest.new.work.items c.in-Some.pair c.in-Some.ensures.items p.1 c.in_ok-push_pair_rest.ensures in
    let o = c.in-Open.ensures in
    let i = solution_agrees t c.requires.good in
    let own = own_domains (store_of t) in
    opened_less h 0 (solution t) c.loop-pair.work.items c.push_pair_rest.new.work.items c.push_pair_arguments-in-Open.new.work.items (term_at h c.in-Some.pair.left) (term_at h c.in-Some.pair.right) c.in-Open.one c.in-Open.other c.requires.good.linked.forest o.left_within o.right_within o.compound (subst IsCompound o.same o.compound) (o.left_is own (solution t) i) (o.right_is own (solution t) i) c.in_ok-push_pair_arguments-in-Open.ensures z

pub loop-pair-preserved : goal.loop-pair-preserved
loop-pair-preserved c =
    let t = c.args.state.now in
    let h = t.heap.items in
    let p = pair_pop h c.loop-pair.work.items c.pop.new.self.items c.in-Some.pair c.in-Some.ensures.items c.loop-pair.invariant.all in
    let k = popped_equal h (solution t) c.loop-pair.work.items c.pop.new.self.items c.push_pair_rest.new.work.items c.in-Some.pair c.in-Some.ensures.items p.1 c.in_ok-push_pair_rest.ensures in
    let o = c.in-Open.ensures in
    let i = solution_agrees t c.requires.good in
    let own = own_domains (store_of t) in
    let x = opened_equal h (solution t) c.push_pair_rest.new.work.items c.push_pair_arguments-in-Open.new.work.items (term_at h c.in-Some.pair.left) (term_at h c.in-Some.pair.right) c.in-Open.one c.in-Open.other c.requires.good.linked.forest o.left_within o.right_within o.compound o.same (o.left_is own (solution t) i) (o.right_is own (solution t) i) c.in_ok-push_pair_arguments-in-Open.ensures in
    record { all = c.in_ok-push_pair_arguments-in-Open.ensures.all; same = λ q. c.loop-pair.invariant.same (k.1 (x.0 q)) }
