use Rattle.std.proofs.Common.{◌≡◌, [], sym, subst, rules}
use Rattle.std.specs.Prelude.{ℕ, List}
use Rattle.std.proofs.lemmas.Result.{IfOk-weaker}
use Rattle.pp_algebra.specs.Terms.{more, join}
use Rattle.pp_algebra.specs.Least.{rest}
use Rattle.pp_row.specs.declared.cell.Cell.{Cell}
use Rattle.pp_row.specs.Reading.{from}
use Rattle.pp_heap.specs.Values.{term_at}
use Rattle.pp_heap.specs.Spans.{span_terms, terms_of}
use Rattle.pp_heap.proofs.Walk.{popped}
use Rattle.pp_heap.proofs.Work.{all_pop}
use Rattle.pp_unify.specs.Forests.{counted_all}
use Rattle.pp_unify.specs.Taking.{left_of, HasTaken}
use Rattle.pp_unify.proofs.Walking.{goal_within, no_items}
use Rattle.pp_unify.proofs.join.take_next.Goals as goal

pub take_goal-requires-clause-within : goal.take_goal-requires-clause-within
take_goal-requires-clause-within c =
    let ws = c.args.work.now.items in
    let e : ws ≡ [] = no_items ws (search (rules, c.in-None.ensures.cases)) in
    goal_within c.args.state.now ws c.args.first c.args.goal.now c.args.at c.args.head.now c.args.next e c.requires.head c.requires.within c.requires.counts

pub returns-in-Some-clause-taken : goal.returns-in-Some-clause-taken
returns-in-Some-clause-taken c =
    let a = c.args.state.now in
    let h = a.heap.items in
    let ws = c.args.work.now.items in
    let ss = c.pop.new.self.items in
    let x = c.in-Some.span in
    let n = c.args.first in
    let goal = c.args.goal.now in
    let head = c.args.head.now in
    let to = c.args.next in
    let us = counted_all n (from goal c.args.at) in
    let now = c.take_span.new.work.items in
    let first = more (term_at h x.at) (join (rest (span_terms h x)) (terms_of h ss)) in
    let e = popped h ws ss x c.in-Some.ensures.items (all_pop h ws ss x c.in-Some.ensures.items c.requires.all).1 in
    IfOk-weaker c.take_span.result (λ t. (n : ℕ) (goal : List Cell) → HasTaken (join first (counted_all n (from goal c.args.at))) a now n goal head to t) (HasTaken (left_of a ws n goal c.args.at) a now n goal head to)
    (λ r t. subst (λ ts. HasTaken (join ts us) a now n goal head to r) (sym e) (t n goal))
    c.take_span.ensures.taken
