use Rattle.pp_heap.specs.Values.{term_at}
use Rattle.pp_unify.proofs.Covering.{likeness_seen}
use Rattle.pp_unify.proofs.cover.look.Goals as goal

pub returns : goal.returns
returns c =
    let t = c.args.state.now in
    likeness_seen t (term_at t.heap.items c.args.left) (term_at t.heap.items c.args.right) c.look-one.result c.look-other.result c.compare.result c.requires.good c.look-one.ensures c.look-other.ensures c.compare.ensures
