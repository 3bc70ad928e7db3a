use Rattle.std.proofs.Common.{◌∙◌, ap, sym}
use Rattle.pp_row.specs.Cells.{arity_of}
use Rattle.pp_heap.proofs.Forests.{cell_read}
use Rattle.pp_heap.proofs.state.State.arity_at.Goals as goal

pub returns : goal.returns
returns c = c.arity.ensures ∙ ap arity_of (sym (cell_read c.args.self.now.heap.items c.args.place c.index.result.now c.index.ensures c.requires.within))
