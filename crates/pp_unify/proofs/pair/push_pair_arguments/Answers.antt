use Rattle.std.proofs.Common.{◌+◌, ap, ◌∙◌, subst}
use Rattle.pp_row.specs.Cells.{arity_of}
use Rattle.pp_heap.specs.Soundness.{IsCompound}
use Rattle.pp_heap.proofs.Work.{argument_span, argument_terms}
use Rattle.pp_unify.proofs.Pairs.{pushes_pair}
use Rattle.pp_unify.proofs.pair.push_pair_arguments.Goals as goal

pub returns : goal.returns
returns c =
    let h = c.args.state.now.heap.items in
    let r = c.requires in
    let e = c.arity_at-count.ensures ∙ ap arity_of r.same in
    pushes_pair h c.args.work.now.items c.push.new.self.items (record { left = c.args.left + 1; right = c.args.right + 1; count = c.arity_at-count.result }) _ _ c.in_ok-push.ensures.items r.all
    (record {
      left = argument_span h c.args.left c.arity_at-count.result r.good.linked.forest r.left r.compound c.arity_at-count.ensures;
      right = argument_span h c.args.right c.arity_at-count.result r.good.linked.forest r.right (subst IsCompound r.same r.compound) e;
    })
    (argument_terms h c.args.left c.arity_at-count.result r.good.linked.forest r.left c.arity_at-count.ensures)
    (argument_terms h c.args.right c.arity_at-count.result r.good.linked.forest r.right e)
