use Rattle.std.proofs.Common.{arith}
use Rattle.pp_heap.proofs.Work.{inside_span, inside_fits}
use Rattle.pp_unify.proofs.Inside.{opens}
use Rattle.pp_unify.proofs.pair.push_pair_inside.Goals as goal

pub returns : goal.returns
returns c =
    let r = c.requires in
    opens c.args.state.now.heap.items c.args.work.now.items c.push.new.self.items c.args.pair c.arity_at-arity.result r.good.linked.forest r.pair c.arity_at-arity.ensures r.same r.compound c.in_ok-push.ensures.items r.all

pub overflow_add-pair-3 : goal.overflow_add-pair-3
overflow_add-pair-3 c =
    let h = c.args.state.now.heap.items in
    let r = c.requires in
    let i = inside_span h c.args.pair.left c.args.pair.count c.arity_at-arity.result r.good.linked.forest r.pair.left c.arity_at-arity.ensures r.compound in
    omega (arith, r.good.small, inside_fits h _ r.good.linked.forest i)
