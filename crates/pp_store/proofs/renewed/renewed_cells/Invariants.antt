use Rattle.std.proofs.Common.{◌≡◌, take, All}
use Rattle.std.specs.List.{flat_map}
use Rattle.pp_row.specs.Cells.{IsLegalCell}
use Rattle.pp_row.specs.Columns.{trees_of}
use Rattle.pp_row.specs.Substitution.{put_cell}
use Rattle.pp_store.specs.Replacing.{replacement}
use Rattle.pp_store.proofs.renewed.renewed_cells.Given as goal

abbrev pub invariant-loop-cell : goal.invariant-loop-cell
invariant-loop-cell l = record {
  legal : All IsLegalCell l.out.items;
  cells : l.out.items ≡ flat_map (put_cell (replacement l.by.names.keys (trees_of l.by.terms.items))) (take l.cell-index l.cells);
}
