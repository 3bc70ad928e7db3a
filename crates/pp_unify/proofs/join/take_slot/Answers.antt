use Rattle.std.proofs.Common.{◌≡◌, [], sym, subst, rules}
use Rattle.pp_algebra.specs.Terms.{join}
use Rattle.pp_algebra.specs.Least.{rest}
use Rattle.pp_row.specs.Reading.{from}
use Rattle.pp_heap.specs.Spans.{span_terms, terms_of}
use Rattle.pp_heap.proofs.Walk.{popped}
use Rattle.pp_heap.proofs.Work.{all_pop}
use Rattle.pp_unify.specs.Forests.{counted_all}
use Rattle.pp_unify.specs.Taking.{left_of, AreThis}
use Rattle.pp_unify.proofs.Walking.{span_is, some_within, no_items}
use Rattle.pp_unify.proofs.join.take_slot.Goals as goal

pub take_goal_slot-requires-clause-within : goal.take_goal_slot-requires-clause-within
take_goal_slot-requires-clause-within c =
    let ws = c.args.work.now.items in
    let e : ws ≡ [] = no_items ws (search (rules, c.in-None.ensures.cases)) in
    some_within c.args.state.now ws c.args.first c.args.goal.now c.args.at e c.requires.some

pub returns-in-Some-clause-taken : goal.returns-in-Some-clause-taken
returns-in-Some-clause-taken c =
    let a = c.args.state.now in
    let h = a.heap.items in
    let ws = c.args.work.now.items in
    let ss = c.pop.new.self.items in
    let x = c.in-Some.span in
    let n = c.args.first in
    let goal = c.args.goal.now in
    let at = c.args.at in
    let now = c.put_rest.new.work.items in
    let us = counted_all n (from goal at) in
    let bs = join (rest (span_terms h x)) (terms_of h ss) in
    let e = popped h ws ss x c.in-Some.ensures.items (all_pop h ws ss x c.in-Some.ensures.items c.requires.all).1 in
    let v = c.slot_for_cell.ensures in
    (v.0, v.1, subst (λ ts. AreThis a (join ts us) (left_of a now n goal at) v.0) (sym e) (span_is a x.at bs us now v.0 v.2 c.put_rest.ensures.terms))
