use Rattle.std.proofs.Common.{◌∙◌, sym}
use Rattle.pp_heap.proofs.Forests.{cell_read}
use Rattle.pp_unify.proofs.Meeting.{names_differ}
use Rattle.pp_unify.proofs.unify.compare_names.Goals as goal

pub returns-else-is_same : goal.returns-else-is_same
returns-else-is_same c =
    let t = c.args.state.now in
    let i = cell_read t.heap.items c.args.one c.index.result.now c.index.ensures c.requires.one.0 in
    let j = cell_read t.heap.items c.args.other c.index-2.result.now c.index-2.ensures c.requires.other.0 in
    names_differ t c.args.one c.args.other c.requires.good c.requires.one c.requires.other (λ e. absurd (cc (c.if-is_same.ensures.1 (sym i ∙ e ∙ j))))
