use Rattle.pp_unify.specs.States.{present}
use Rattle.pp_unify.proofs.Overs.{over_cells, over_zero}
use Rattle.pp_bench.proofs.unified.Goals as goal

pub unify-requires-clause-left : goal.unify-requires-clause-left
unify-requires-clause-left c =
    let r = present c.args.bindings.now in
    over_zero r c.args.left.now (over_cells r c.args.left.now c.cells.result.now 0 c.len-count.result c.cells.ensures.cells c.len-count.ensures.count (c.all_there.ensures.0 c.if-all_there.true))

pub unify-requires-clause-right : goal.unify-requires-clause-right
unify-requires-clause-right c =
    let r = present c.args.bindings.now in
    over_zero r c.args.right.now (over_cells r c.args.right.now c.cells-then-all_there.result.now 0 c.len-count.result c.cells-then-all_there.ensures.cells c.len-count.ensures.count (c.all_there-then-all_there.ensures.0 c.if-all_there-2.true))
