use Rattle.std.proofs.Common.{◌≡◌, take, All}
use Rattle.std.specs.List.{flat_map}
use Rattle.pp_row.specs.Cells.{IsLegalCell}
use Rattle.pp_row.specs.Substitution.{term_at, put_cell}
use Rattle.pp_row.proofs.substitution.replaced.Given as goal

abbrev pub invariant-loop-cell : goal.invariant-loop-cell
invariant-loop-cell l = record {
  legal : All IsLegalCell l.out.items;
  cells : l.out.items ≡ flat_map (put_cell (term_at l.terms)) (take l.cell-index l.cells);
}
