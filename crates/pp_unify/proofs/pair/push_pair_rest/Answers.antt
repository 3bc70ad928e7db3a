use Rattle.std.proofs.Common.{◌-◌}
use Rattle.pp_heap.proofs.Work.{rest_span, rest_terms, no_rest}
use Rattle.pp_unify.proofs.Pairs.{pushes_pair, pushes_none}
use Rattle.pp_unify.proofs.pair.push_pair_rest.Goals as goal

pub returns-in_ok-push : goal.returns-in_ok-push
returns-in_ok-push c =
    let h = c.args.state.now.heap.items in
    let p = c.args.pair in
    let r = c.requires in
    pushes_pair h c.args.work.now.items c.push.new.self.items (record { left = c.end_at-left.result; right = c.end_at-right.result; count = p.count - 1 }) _ _ c.in_ok-push.ensures.items r.all
    (record {
      left = rest_span h p.left p.count c.end_at-left.result r.good.linked.forest r.pair.left c.if-pair-gt1.true c.end_at-left.ensures.ends c.end_at-left.ensures.within;
      right = rest_span h p.right p.count c.end_at-right.result r.good.linked.forest r.pair.right c.if-pair-gt1.true c.end_at-right.ensures.ends c.end_at-right.ensures.within;
    })
    (rest_terms h p.left p.count c.end_at-left.result c.if-pair-gt1.true c.end_at-left.ensures.ends)
    (rest_terms h p.right p.count c.end_at-right.result c.if-pair-gt1.true c.end_at-right.ensures.ends)

pub returns-else-pair-gt1 : goal.returns-else-pair-gt1
returns-else-pair-gt1 c =
    let h = c.args.state.now.heap.items in
    let p = c.args.pair in
    pushes_none h c.args.work.now.items _ _ c.requires.all (no_rest h p.left p.count c.if-pair-gt1.false) (no_rest h p.right p.count c.if-pair-gt1.false)
