use Rattle.std.proofs.Common.{◌≡◌, true, subst}
use Rattle.std.proofs.lemmas.Result.{IfOk-weaker}
use Rattle.pp_algebra.specs.Terms.{more, join}
use Rattle.pp_algebra.specs.Least.{rest}
use Rattle.pp_algebra.specs.Rows.{domain_at}
use Rattle.pp_row.specs.Columns.{sets_of}
use Rattle.pp_heap.specs.Values.{cell_at, term_at, value_term}
use Rattle.pp_heap.specs.Spans.{span_terms, terms_of}
use Rattle.pp_heap.proofs.Forests.{legal_at}
use Rattle.pp_unify.specs.Covering.{IsMet}
use Rattle.pp_unify.proofs.Covering.{met_inside, met_seen, seen}
use Rattle.pp_unify.proofs.cover.meet_span.Goals as goal

pub returns-then-is_alike-clause-met : goal.returns-then-is_alike-clause-met
returns-then-is_alike-clause-met c = λ _.
    let t = c.args.state.now in
    let h = t.heap.items in
    let p = c.args.span.at in
    let w = c.is_alike.ensures c.if-is_alike.true in
    met_inside t (domain_at (sets_of c.args.domains.now)) c.args.cover.now.bound.items (cell_at c.args.cells.now c.args.at) p (join (rest (span_terms h c.args.span)) (terms_of h c.args.cover.now.work.items)) (terms_of h c.push_inside.new.work.items) c.requires.good c.requires.bound c.requires.span.within w.0 w.1 c.in_ok-push_inside.ensures.terms

pub returns-clause-met : goal.returns-clause-met
returns-clause-met c =
    let t = c.args.state.now in
    let h = t.heap.items in
    let ds = domain_at (sets_of c.args.domains.now) in
    let old = c.args.cover.now.bound.items in
    let new = c.meet.new.cover.bound.items in
    let cell = cell_at c.args.cells.now c.args.at in
    let u = term_at h c.args.span.at in
    let d = c.look-value.result in
    let ws = terms_of h c.put_rest.new.work.items in
    let bs = join (rest (span_terms h c.args.span)) (terms_of h c.args.cover.now.work.items) in
    let qs = terms_of h c.meet.new.cover.work.items in
    IfOk-weaker c.meet.result (λ is. is ≡ true → IsMet t ds old new cell (more (value_term h d) ws) qs) (λ is. is ≡ true → IsMet t ds old new cell (more u bs) qs)
    (λ is k e. met_seen t ds old new cell u d bs qs (seen t u d c.requires.good c.look-value.ensures) (subst (λ z. IsMet t ds old new cell (more (value_term h d) z) qs) c.put_rest.ensures.terms (k e)))
    c.meet.ensures.met

pub meet-requires-clause-legal : goal.meet-requires-clause-legal
meet-requires-clause-legal c = legal_at c.args.cells.now c.args.at c.requires.cells c.requires.within
