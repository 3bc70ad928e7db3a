use Rattle.std.proofs.Common.{◌≡◌, ◌++◌, fold, length, take}
use Rattle.std.specs.List.{flat_map}
use Rattle.std.specs.Hash as fed
use Rattle.pp_lgg.specs.Hashing.{cell_writes}
use Rattle.pp_lgg.proofs.pair.hash_cells.Given as goal

abbrev pub invariant-loop-cell : goal.invariant-loop-cell
invariant-loop-cell g l = l.state ≡ fold g.H.Hasher.write l.fn.state (fed.usize (length l.cells) ++ flat_map cell_writes (take l.cell-index l.cells))
