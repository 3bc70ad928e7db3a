use Rattle.std.proofs.Common.{refl}
use Rattle.pp_algebra.specs.Terms.{join}
use Rattle.pp_algebra.specs.Least.{rest}
use Rattle.pp_row.specs.Reading.{from}
use Rattle.pp_heap.specs.Spans.{span_terms, terms_of}
use Rattle.pp_unify.specs.Forests.{counted_all}
use Rattle.pp_unify.proofs.HeadSteps.{opened_turned}
use Rattle.pp_unify.proofs.Walking.{span_is, span_passed}
use Rattle.pp_unify.proofs.join.take_span.Goals as goal

pub returns-then-is_alike-clause-taken : goal.returns-then-is_alike-clause-taken
returns-then-is_alike-clause-taken c = λ n goal.
    let a = c.args.state.now in
    let x = c.args.span in
    let bs = join (rest (span_terms a.heap.items x)) (terms_of a.heap.items c.args.work.now.items) in
    let now = c.push_inside.new.work.items in
    let w = c.if-is_alike.ensures refl in
    let o = c.in_ok-push_inside.ensures in
    span_passed a x.at bs (counted_all n (from goal c.args.at)) now c.args.head.now c.args.next
    (λ m. opened_turned a bs now x.at m c.args.head.now c.args.next c.requires.good c.requires.span.within w.1 w.0 c.requires.head c.requires.within o.all o.terms)

pub returns-clause-taken : goal.returns-clause-taken
returns-clause-taken c = λ n goal.
    let a = c.args.state.now in
    let x = c.args.span in
    let bs = join (rest (span_terms a.heap.items x)) (terms_of a.heap.items c.args.work.now.items) in
    span_is a x.at bs (counted_all n (from goal c.args.at)) c.put_rest.new.work.items c.look.result c.look.ensures c.put_rest.ensures.terms
