use Rattle.std.proofs.Common.{◌≡◌, [], ◌∷◌, ◌++◌, ◌∙◌, refl, ap, sym, append-nil, arith}
use Rattle.pp_row.specs.Cells.{cells_of}
use Rattle.pp_algebra.specs.Least.{rest}
use Rattle.pp_algebra.specs.Terms.{put, join, size}
use Rattle.pp_heap.specs.Values.{cell_at, term_at, value_term}
use Rattle.pp_heap.specs.Stores.{store_of, solution}
use Rattle.pp_heap.specs.Spans.{span_terms, terms_of}
use Rattle.pp_unify.specs.Writing.{written}
use Rattle.pp_heap.proofs.Work.{all_pop}
use Rattle.pp_heap.proofs.Walk.{popped, taken, opened_at, sizes_term}
use Rattle.pp_unify.proofs.Resolved.{wrote_taken, wrote_inside}
use Rattle.pp_heap.proofs.Forests.{cell_read}
use Rattle.pp_heap.proofs.Solutions.{own_domains, solution_agrees}
use Rattle.pp_unify.proofs.writing.resolve.Goals as goal

pub loop-span-init : goal.loop-span-init
loop-span-init c =
    let t = c.args.state.now in
    let s = solution t in
    let h = t.heap.items in
    let e = c.value_of.ensures.same (own_domains (store_of t)) s (solution_agrees t c.requires.good) in
    record {
      all = c.in_ok-write.ensures.all;
      same = c.in_ok-write.ensures.written.cells
          ∙ ap (λ ws. c.args.out.now.items ++ (cells_of (put s (value_term h c.value_of.result)) ++ written s (terms_of h ws))) c.new-work.ensures.items
          ∙ ap (λ cs. c.args.out.now.items ++ cs) (append-nil (cells_of (put s (value_term h c.value_of.result))))
          ∙ ap (λ z. c.args.out.now.items ++ cells_of z) (sym e);
    }

pub loop-span-smaller : goal.loop-span-smaller
loop-span-smaller c =
    let t = c.args.state.now in
    let s = solution t in
    let h = t.heap.items in
    let p = all_pop h c.loop-span.work.items c.pop.new.self.items c.in-Some.span c.in-Some.ensures.items c.loop-span.invariant.all in
    let q = taken h c.loop-span.work.items c.pop.new.self.items c.push_rest.new.work.items c.in-Some.span c.in-Some.ensures.items p.1 c.in_ok-push_rest.ensures.terms in
    let e = ap size (c.look.ensures.same (own_domains (store_of t)) s (solution_agrees t c.requires.good)) in
    let l = c.in_ok-write-2.ensures.written.less in
    rw q (omega (arith, e, l))

pub loop-span-preserved : goal.loop-span-preserved
loop-span-preserved c =
    let t = c.args.state.now in
    let s = solution t in
    let h = t.heap.items in
    let p = all_pop h c.loop-span.work.items c.pop.new.self.items c.in-Some.span c.in-Some.ensures.items c.loop-span.invariant.all in
    let q = taken h c.loop-span.work.items c.pop.new.self.items c.push_rest.new.work.items c.in-Some.span c.in-Some.ensures.items p.1 c.in_ok-push_rest.ensures.terms in
    let e = c.look.ensures.same (own_domains (store_of t)) s (solution_agrees t c.requires.good) in
    record {
      all = c.in_ok-write-2.ensures.all;
      same = wrote_taken s c.loop-span.out.items c.write-in-Some.new.out.items (written s (terms_of h c.write-in-Some.new.work.items)) (term_at h c.in-Some.span.at) (value_term h c.look.result) (terms_of h c.push_rest.new.work.items) e c.in_ok-write-2.ensures.written.cells
          ∙ ap (λ z. c.loop-span.out.items ++ written s z) (sym q)
          ∙ c.loop-span.invariant.same;
    }

pub loop-span-smaller-then-is_compound : goal.loop-span-smaller-then-is_compound
loop-span-smaller-then-is_compound c =
    let t = c.args.state.now in
    let h = t.heap.items in
    let span = c.in-Some.span in
    let p = all_pop h c.loop-span.work.items c.pop.new.self.items span c.in-Some.ensures.items c.loop-span.invariant.all in
    let q = popped h c.loop-span.work.items c.pop.new.self.items span c.in-Some.ensures.items p.1 in
    let o = opened_at (solution t) h span.at c.requires.good.linked.forest p.1.within (c.is_compound.ensures c.if-is_compound.true) in
    rw (q, c.in_ok-push_inside.ensures.terms) (sizes_term (solution t) (join (rest (span_terms h span)) (terms_of h c.pop.new.self.items)) (term_at h span.at) (term_at h span.at) refl o)

pub loop-span-preserved-then-is_compound : goal.loop-span-preserved-then-is_compound
loop-span-preserved-then-is_compound c =
    let t = c.args.state.now in
    let s = solution t in
    let h = t.heap.items in
    let span = c.in-Some.span in
    let out = c.loop-span.out.items in
    let p = all_pop h c.loop-span.work.items c.pop.new.self.items span c.in-Some.ensures.items c.loop-span.invariant.all in
    let q = popped h c.loop-span.work.items c.pop.new.self.items span c.in-Some.ensures.items p.1 in
    let r = join (rest (span_terms h span)) (terms_of h c.pop.new.self.items) in
    let e : c.push.new.self.items ≡ out ++ cell_at h span.at ∷ [] = c.in_ok-push.ensures.items ∙ ap (λ k. out ++ k ∷ []) (sym (cell_read h span.at c.index.result.now c.index.ensures p.1.within)) in
    record {
      all = c.in_ok-push_inside.ensures.all;
      same = wrote_inside s h span.at out c.push.new.self.items (terms_of h c.push_inside.new.work.items) r c.requires.good.linked.forest p.1.within (c.is_compound.ensures c.if-is_compound.true) e c.in_ok-push_inside.ensures.terms
          ∙ ap (λ z. out ++ written s z) (sym q)
          ∙ c.loop-span.invariant.same;
    }
