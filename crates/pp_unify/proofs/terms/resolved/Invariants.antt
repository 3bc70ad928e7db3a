use Rattle.std.proofs.Common.{◌≡◌, take}
use Rattle.std.specs.List.{flat_map}
use Rattle.pp_heap.specs.Stores.{solution}
use Rattle.pp_unify.specs.Tops.{cells_under}
use Rattle.pp_unify.proofs.terms.resolved.Given as goal

abbrev pub invariant-loop-cell : goal.invariant-loop-cell
invariant-loop-cell l = l.cells.items ≡ flat_map (cells_under (solution l.state)) (take l.cell-index l.cell-items)
