use Rattle.std.proofs.Common.{◌∙◌, ap, sym, arith}
use Rattle.pp_algebra.specs.Terms.{join}
use Rattle.pp_algebra.proofs.Joined.{join-join}
use Rattle.pp_algebra.specs.Least.{rest, arguments}
use Rattle.pp_heap.specs.Values.{term_at}
use Rattle.pp_heap.specs.Spans.{span_terms, terms_of}
use Rattle.pp_heap.proofs.Work.{terms_of-push, inside_span, inside_terms, inside_fits, all_push}
use Rattle.pp_heap.proofs.state.State.push_inside.Goals as goal

pub returns-clause-all : goal.returns-clause-all
returns-clause-all c =
    let h = c.args.self.now.heap.items in
    let r = c.requires in
    rw c.in_ok-push.ensures.items (all_push h c.args.work.now.items _ r.all (inside_span h c.args.span.at c.args.span.count c.arity_at-arity.result r.good.linked.forest r.span c.arity_at-arity.ensures r.compound))

pub returns-clause-terms : goal.returns-clause-terms
returns-clause-terms c =
    let h = c.args.self.now.heap.items in
    let r = c.requires in
    let ws = c.args.work.now.items in
    let p = c.args.span.at in
    rw c.in_ok-push.ensures.items (
    terms_of-push h ws _
    ∙ ap (λ z. join z (terms_of h ws)) (inside_terms h p c.args.span.count c.arity_at-arity.result r.good.linked.forest r.span c.arity_at-arity.ensures)
    ∙ sym (join-join (arguments (term_at h p)) (rest (span_terms h c.args.span)) (terms_of h ws))
    )

pub overflow_add-span-2 : goal.overflow_add-span-2
overflow_add-span-2 c =
    let h = c.args.self.now.heap.items in
    let r = c.requires in
    let i = inside_span h c.args.span.at c.args.span.count c.arity_at-arity.result r.good.linked.forest r.span c.arity_at-arity.ensures r.compound in
    omega (arith, r.good.small, inside_fits h _ r.good.linked.forest i)
