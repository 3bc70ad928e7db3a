use Rattle.std.proofs.Common.{◌≡◌, ◌<◌, [], ◌∷◌, sym, subst, All, List, length, refl, rules}
use Rattle.pp_row.specs.declared.cell.Cell.{Cell}
use Rattle.pp_algebra.specs.Least.{arguments}
use Rattle.pp_unify.specs.declared.pair.Pair.{Pair}
use Rattle.pp_heap.specs.Values.{term_at}
use Rattle.pp_heap.specs.Stores.{solution}
use Rattle.pp_unify.specs.Pairs.{IsPair, AllEqual, both_sizes, Pushes}
use Rattle.pp_heap.specs.Outcomes.{frees}
use Rattle.pp_heap.proofs.Sizes.{weight-less}
use Rattle.pp_heap.proofs.Calm.{later_itself, later_through}
use Rattle.pp_unify.proofs.Pairs.{pair_pop}
use Rattle.pp_unify.proofs.PairSteps.{opened_equal, popped_equal, popped_sizes, done_less, open_less, open_equal}
use Rattle.pp_unify.proofs.unify.unify_arguments.Goals as goal

pub loop-pair-init : goal.loop-pair-init
loop-pair-init c =
    let a = c.args.state.now in
    let h = a.heap.items in
    let l = c.args.left in
    let r = c.args.right in
    let now = c.push_pair_arguments.new.work.items in
    let w : Pushes h [] now (arguments (term_at h l)) (arguments (term_at h r)) = subst (λ ws. Pushes h ws now (arguments (term_at h l)) (arguments (term_at h r))) c.clear.ensures.items c.in_ok-push_pair_arguments.ensures in
    record {
      later = later_itself a c.requires.good;
      all = w.all;
      same = λ ds s _.
          let o = opened_equal h s [] now (term_at h l) (term_at h r) l r c.requires.good.linked.forest c.requires.left c.requires.right c.requires.compound c.requires.same refl refl w in
          ((λ q. (q.0, (o.0 q.1).1)), λ q. (q.0, o.1 (tt, q.1)));
    }

pub push_pair_rest-requires-clause-pair : goal.push_pair_rest-requires-clause-pair
push_pair_rest-requires-clause-pair c = (pair_pop c.loop-pair.state.heap.items c.loop-pair.work.items c.pop.new.self.items c.in-Some.pair c.in-Some.ensures.items c.loop-pair.invariant.all).1

pub returns-in_err-meet-clause-later : goal.returns-in_err-meet-clause-later
returns-in_err-meet-clause-later c = later_through c.args.state.now c.loop-pair.state c.meet.new.state c.loop-pair.invariant.later c.in_err-meet.ensures.later

pub returns-in-Apart-clause-later : goal.returns-in-Apart-clause-later
returns-in-Apart-clause-later c = later_through c.args.state.now c.loop-pair.state c.meet.new.state c.loop-pair.invariant.later c.in_ok-meet.ensures.later

pub returns-in-Apart-clause-verdict : goal.returns-in-Apart-clause-verdict
returns-in-Apart-clause-verdict c =
    let h = c.loop-pair.state.heap.items in
    let p = pair_pop h c.loop-pair.work.items c.pop.new.self.items c.in-Some.pair c.in-Some.ensures.items c.loop-pair.invariant.all in
    let met = rw c.in-Apart.is at c.in_ok-meet.ensures.met in
    λ ds s w a e.
    let q = (c.loop-pair.invariant.same ds s w).1 (a, e) in
    let k = popped_equal h s c.loop-pair.work.items c.pop.new.self.items c.push_pair_rest.new.work.items c.in-Some.pair c.in-Some.ensures.items p.1 c.in_ok-push_pair_rest.ensures in
    met ds s w q.0 (k.0 q.1).1

pub loop-pair-smaller-in-Done : goal.loop-pair-smaller-in-Done
loop-pair-smaller-in-Done c =
    let a = c.loop-pair.state in
    let h = a.heap.items in
    let p = pair_pop h c.loop-pair.work.items c.pop.new.self.items c.in-Some.pair c.in-Some.ensures.items c.loop-pair.invariant.all in
    let met = rw c.in-Done.is at c.in_ok-meet.ensures.met in
    let z = popped_sizes h (solution a) c.loop-pair.work.items c.pop.new.self.items c.push_pair_rest.new.work.items c.in-Some.pair c.in-Some.ensures.items p.1 c.in_ok-push_pair_rest.ensures in
    done_less a c.meet.new.state c.loop-pair.work.items c.push_pair_rest.new.work.items (term_at h c.in-Some.pair.left) (term_at h c.in-Some.pair.right) c.in_ok-meet.ensures.later.heap met z

pub loop-pair-preserved-in-Done : goal.loop-pair-preserved-in-Done
loop-pair-preserved-in-Done c =
    let a = c.loop-pair.state in
    let h = a.heap.items in
    let p = pair_pop h c.loop-pair.work.items c.pop.new.self.items c.in-Some.pair c.in-Some.ensures.items c.loop-pair.invariant.all in
    let met = rw c.in-Done.is at c.in_ok-meet.ensures.met in
    let e = c.in_ok-meet.ensures.later.heap in
    record {
      later = later_through c.args.state.now a c.meet.new.state c.loop-pair.invariant.later c.in_ok-meet.ensures.later;
      all = subst (λ (heap : List Cell). All (IsPair heap) c.push_pair_rest.new.work.items) (sym e) c.in_ok-push_pair_rest.ensures.all;
      same = λ ds s w.
          let i = c.loop-pair.invariant.same ds s w in
          let k = popped_equal h s c.loop-pair.work.items c.pop.new.self.items c.push_pair_rest.new.work.items c.in-Some.pair c.in-Some.ensures.items p.1 c.in_ok-push_pair_rest.ensures in
          let f = met.follows ds s w in (
            (λ q. let b = f.0 q.0 in i.0 (b.0, k.1 (subst (λ (heap : List Cell). AllEqual heap s c.push_pair_rest.new.work.items) e q.1, b.1))),
            λ q. let b = i.1 q in let d = k.0 b.1 in (f.1 (b.0, d.1), subst (λ (heap : List Cell). AllEqual heap s c.push_pair_rest.new.work.items) (sym e) d.0),
          );
    }

pub loop-pair-smaller : goal.loop-pair-smaller
loop-pair-smaller c =
    let a = c.loop-pair.state in
    let h = a.heap.items in
    let p = pair_pop h c.loop-pair.work.items c.pop.new.self.items c.in-Some.pair c.in-Some.ensures.items c.loop-pair.invariant.all in
    let met = rw c.in-Open.is at c.in_ok-meet.ensures.met in
    let z = popped_sizes h (solution a) c.loop-pair.work.items c.pop.new.self.items c.push_pair_rest.new.work.items c.in-Some.pair c.in-Some.ensures.items p.1 c.in_ok-push_pair_rest.ensures in
    open_less a c.meet.new.state c.loop-pair.work.items c.push_pair_rest.new.work.items c.push_pair_arguments-in-Open.new.work.items (term_at h c.in-Some.pair.left) (term_at h c.in-Some.pair.right) c.in-Open.one c.in-Open.other c.loop-pair.invariant.later.good met.0 met.1 c.in_ok-push_pair_arguments-in-Open.ensures z

pub loop-pair-preserved : goal.loop-pair-preserved
loop-pair-preserved c =
    let a = c.loop-pair.state in
    let h = a.heap.items in
    let p = pair_pop h c.loop-pair.work.items c.pop.new.self.items c.in-Some.pair c.in-Some.ensures.items c.loop-pair.invariant.all in
    let met = rw c.in-Open.is at c.in_ok-meet.ensures.met in
    record {
      later = later_through c.args.state.now a c.meet.new.state c.loop-pair.invariant.later c.in_ok-meet.ensures.later;
      all = c.in_ok-push_pair_arguments-in-Open.ensures.all;
      same = λ ds s w.
          let i = c.loop-pair.invariant.same ds s w in
          let k = popped_equal h s c.loop-pair.work.items c.pop.new.self.items c.push_pair_rest.new.work.items c.in-Some.pair c.in-Some.ensures.items p.1 c.in_ok-push_pair_rest.ensures in
          let x = open_equal a c.meet.new.state c.loop-pair.work.items c.push_pair_rest.new.work.items c.push_pair_arguments-in-Open.new.work.items (term_at h c.in-Some.pair.left) (term_at h c.in-Some.pair.right) c.in-Open.one c.in-Open.other c.loop-pair.invariant.later.good met.0 met.1 c.in_ok-push_pair_arguments-in-Open.ensures ds s in
          ((λ q. let b = x.0 q in i.0 (b.0, k.1 b.1)), λ q. let b = i.1 q in x.1 (b.0, k.0 b.1));
    }

no_items : (ps : List Pair) → length ps ≡ 0 → ps ≡ []
no_items [] h = refl
no_items (p ∷ ps) h = absurd (cc)

pub returns-clause-verdict : goal.returns-clause-verdict
returns-clause-verdict c =
    let e : c.loop-pair.work.items ≡ [] = no_items c.loop-pair.work.items (search (rules, c.in_default.ensures.cases)) in
    λ ds s w.
    let i = rw e at (c.loop-pair.invariant.same ds s w) in
    ((λ r. i.0 (r, tt)), λ r. (i.1 r).0)

pub are_alike-requires : goal.are_alike-requires
are_alike-requires c =
    let p = (pair_pop c.loop-pair.state.heap.items c.loop-pair.work.items c.pop.new.self.items c.in-Some.pair c.in-Some.ensures.items c.loop-pair.invariant.all).1 in
    record { left = p.left.within; right = p.right.within }

pub push_pair_inside-requires-clause-pair : goal.push_pair_inside-requires-clause-pair
push_pair_inside-requires-clause-pair c = (pair_pop c.loop-pair.state.heap.items c.loop-pair.work.items c.pop.new.self.items c.in-Some.pair c.in-Some.ensures.items c.loop-pair.invariant.all).1

pub loop-pair-smaller-then-are_alike : goal.loop-pair-smaller-then-are_alike
loop-pair-smaller-then-are_alike c =
    let a = c.loop-pair.state in
    let h = a.heap.items in
    let o = c.in_ok-push_pair_inside.ensures in
    weight-less (frees a.slots.items) _ _ (subst (λ ws. both_sizes h (solution a) c.push_pair_inside.new.work.items < both_sizes h (solution a) ws) (sym c.in-Some.ensures.items) (o.sizes (solution a)))

pub loop-pair-preserved-then-are_alike : goal.loop-pair-preserved-then-are_alike
loop-pair-preserved-then-are_alike c =
    let h = c.loop-pair.state.heap.items in
    let o = c.in_ok-push_pair_inside.ensures in
    let e = c.in-Some.ensures.items in
    record {
      later = c.loop-pair.invariant.later;
      all = o.all;
      same = λ ds s w.
          let i = c.loop-pair.invariant.same ds s w in
          let k = o.equal s in
          ((λ q. i.0 (q.0, subst (AllEqual h s) (sym e) (k.0 q.1))), λ q. let b = i.1 q in (b.0, k.1 (subst (AllEqual h s) e b.1)));
    }
