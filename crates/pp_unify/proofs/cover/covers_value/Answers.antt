use Rattle.std.proofs.Common.{◌≡◌, length, ap, sym, subst, rules, All, arith}
use Rattle.pp_algebra.specs.Terms.{more, none, join}
use Rattle.pp_algebra.specs.Least.{rest}
use Rattle.pp_algebra.specs.Rows.{domain_at}
use Rattle.pp_row.specs.Columns.{sets_of}
use Rattle.pp_row.specs.Reading.{from}
use Rattle.pp_row.proofs.InStep.{is_forest}
use Rattle.pp_heap.specs.Values.{term_at}
use Rattle.pp_heap.specs.Spans.{IsSpan, span_terms, terms_of}
use Rattle.pp_heap.proofs.Forests.{legal_at}
use Rattle.pp_heap.proofs.Walk.{popped}
use Rattle.pp_heap.proofs.Work.{all_pop}
use Rattle.pp_unify.specs.Covering.{TakesNow}
use Rattle.pp_unify.proofs.Covering.{first_met, next_met, no_spans, nothing_taken, past_end}
use Rattle.pp_unify.proofs.Tops.{some_cell}
use Rattle.pp_unify.proofs.cover.covers_value.Goals as goal

pub bounds-cells-0 : goal.bounds-cells-0
bounds-cells-0 c = some_cell c.args.term.now c.cells-cells.result.now c.cells-cells.ensures.cells c.cells-cells.ensures.term

pub meet-requires-clause-legal : goal.meet-requires-clause-legal
meet-requires-clause-legal c =
    let cs = c.cells-cells.result.now in
    legal_at cs 0 (is_forest c.args.term.now cs c.cells-cells.ensures.cells c.cells-cells.ensures.term) (some_cell c.args.term.now cs c.cells-cells.ensures.cells c.cells-cells.ensures.term)

pub meet-requires-clause-all : goal.meet-requires-clause-all
meet-requires-clause-all c = subst (All (IsSpan c.args.state.now.heap.items)) (sym c.clear.ensures.items) (λ k d l. absurd (omega (arith, l)))

pub loop-at-init : goal.loop-at-init
loop-at-init c =
    let t = c.args.state.now in
    let h = t.heap.items in
    let ds = domain_at (sets_of c.args.domains.now) in
    let cs = c.cells-cells.result.now in
    let e = c.cells-cells.ensures.cells in
    let w = c.cells-cells.ensures.term in
    let m = c.in_ok-meet.ensures.met c.if-not-branch.false in
    record {
      all = c.in_ok-meet.ensures.all;
      bound = m.bound;
      older = m.older;
      back = first_met t ds c.args.cover.now.bound.items c.meet.new.cover.bound.items c.args.term.now cs c.args.value (terms_of h c.clear.new.self.items) (terms_of h c.meet.new.cover.work.items) e (is_forest c.args.term.now cs e w) (some_cell c.args.term.now cs e w) (ap (terms_of h) c.clear.ensures.items) m;
    }

pub loop-at-preserved : goal.loop-at-preserved
loop-at-preserved c =
    let t = c.args.state.now in
    let h = t.heap.items in
    let ds = domain_at (sets_of c.args.domains.now) in
    let cs = c.cells-cells.result.now in
    let at = c.loop-at.at in
    let f = is_forest c.args.term.now cs c.cells-cells.ensures.cells c.cells-cells.ensures.term in
    let ws = c.loop-at.cover.work.items in
    let ps = c.pop.new.self.items in
    let span = c.in-Some.span in
    let i = c.loop-at.invariant in
    let p = all_pop h ws ps span c.in-Some.ensures.items i.all in
    let m = c.in_ok-meet_span.ensures.met c.if-not-branch-2.false in
    let e = popped h ws ps span c.in-Some.ensures.items p.1 in
    record {
      all = c.in_ok-meet_span.ensures.all;
      bound = m.bound;
      older = λ s g. i.older s (m.older s g);
      back = λ s g k. i.back s (m.older s g) (next_met t ds c.loop-at.cover.bound.items c.meet_span.new.cover.bound.items cs at (more (term_at h span.at) (join (rest (span_terms h span)) (terms_of h ps))) (terms_of h ws) (terms_of h c.meet_span.new.cover.work.items) f c.loop-at-test.true e m s g k);
    }

pub meet_span-requires-clause-span : goal.meet_span-requires-clause-span
meet_span-requires-clause-span c = (all_pop c.args.state.now.heap.items c.loop-at.cover.work.items c.pop.new.self.items c.in-Some.span c.in-Some.ensures.items c.loop-at.invariant.all).1

pub meet_span-requires-clause-all : goal.meet_span-requires-clause-all
meet_span-requires-clause-all c = (all_pop c.args.state.now.heap.items c.loop-at.cover.work.items c.pop.new.self.items c.in-Some.span c.in-Some.ensures.items c.loop-at.invariant.all).0

pub meet_span-requires-clause-cells : goal.meet_span-requires-clause-cells
meet_span-requires-clause-cells c = is_forest c.args.term.now c.cells-cells.result.now c.cells-cells.ensures.cells c.cells-cells.ensures.term

pub returns : goal.returns
returns c h =
    let t = c.args.state.now in
    let ds = domain_at (sets_of c.args.domains.now) in
    let cs = c.cells-cells.result.now in
    let ws = c.loop-at.cover.work.items in
    let l : length ws ≡ 0 = search (rules, h, c.is_empty.ensures) in
    let i = c.loop-at.invariant in
    record {
      bound = i.bound;
      older = i.older;
      takes = λ s g. i.back s g (subst (λ us. TakesNow t ds s (from cs c.loop-at.at) (terms_of t.heap.items us)) (sym (no_spans ws l)) (subst (λ us. TakesNow t ds s us none) (sym (past_end cs c.loop-at.at c.loop-at-test.false)) (nothing_taken t ds s)));
    }
