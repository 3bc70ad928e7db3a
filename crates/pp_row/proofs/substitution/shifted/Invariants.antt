use Rattle.std.proofs.Common.{◌≡◌, ◌+◌, take, map}
use Rattle.pp_row.specs.Cells.{renamed}
use Rattle.pp_row.proofs.substitution.shifted.Given as goal

abbrev pub invariant-loop-cell : goal.invariant-loop-cell
invariant-loop-cell l = l.out.items ≡ map (renamed (λ v. l.first + v)) (take l.cell-index l.cells)
