use Rattle.std.proofs.Common.{◌+◌, All, ◌∙◌, ap, sym, subst, arith}
use Rattle.pp_algebra.specs.Terms.{join}
use Rattle.pp_algebra.specs.Covers.{IsIn}
use Rattle.pp_algebra.proofs.Joined.{join-none}
use Rattle.pp_heap.specs.Stores.{solution}
use Rattle.pp_heap.specs.Spans.{IsSpan, span_terms, terms_of}
use Rattle.pp_heap.specs.Sights.{seen_in}
use Rattle.pp_heap.proofs.Work.{terms_of-push, all_pop, argument_span, argument_terms}
use Rattle.pp_heap.proofs.Walk.{opened_at}
use Rattle.pp_heap.proofs.state.State.occurs.Goals as goal

pub loop-work-init : goal.loop-work-init
loop-work-init c =
    let t = c.args.self.now in
    let h = t.heap.items in
    let f = c.requires.good.linked.forest in
    let e = c.clear.ensures.items in
    let s = span_terms h (record { at = c.args.at + 1; count = c.arity_at.result }) in
    let whole = ap (λ ws. join s (terms_of h ws)) e ∙ join-none s ∙ argument_terms h c.args.at c.arity_at.result f c.requires.within c.arity_at.ensures in
    let o = opened_at (solution t) h c.args.at f c.requires.within c.requires.compound in
    let same = ap (seen_in t) whole ∙ sym o.variables in
    record {
      all = subst (All (IsSpan h)) (sym e) (λ k d l. absurd (omega (arith, l)));
      some = argument_span h c.args.at c.arity_at.result f c.requires.within c.requires.compound c.arity_at.ensures;
      same = ((λ i. subst (IsIn c.args.variable) same i), λ i. subst (IsIn c.args.variable) (sym same) i);
    }

pub loop-work-smaller : goal.loop-work-smaller
loop-work-smaller c =
    let h = c.args.self.now.heap.items in
    let e = ap (terms_of h) c.in-Some.ensures.items ∙ terms_of-push h c.pop.new.self.items c.in-Some.next in
    let i = rw c.if-branch.false at c.in_ok-is_among.ensures.seen in
    rw (sym e) i.less

pub loop-work-preserved : goal.loop-work-preserved
loop-work-preserved c =
    let h = c.args.self.now.heap.items in
    let ws = c.is_among.new.work.items in
    let ss = c.pop.new.self.items in
    let e = ap (terms_of h) c.in-Some.ensures.items ∙ terms_of-push h ss c.in-Some.next in
    let i = rw c.if-branch.false at c.in_ok-is_among.ensures.seen in
    let j = c.loop-work.invariant.same in
    let a = all_pop h ws ss c.in-Some.next c.in-Some.ensures.items c.in_ok-is_among.ensures.all in
    record { all = a.0; some = a.1; same = rw (sym e) ((λ k. j.0 (i.same.0 k)), λ k. i.same.1 (j.1 k)) }
