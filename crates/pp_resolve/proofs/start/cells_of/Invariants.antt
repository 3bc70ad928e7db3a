use Rattle.std.proofs.Common.{◌≡◌, take}
use Rattle.pp_row.specs.Columns.{trees_of}
use Rattle.pp_row.specs.Reading.{IsForest, forest}
use Rattle.pp_resolve.proofs.start.cells_of.Given as goal

abbrev pub invariant-loop-term : goal.invariant-loop-term
invariant-loop-term l = record {
  whole : IsForest l.cells.items;
  terms : forest l.cells.items ≡ trees_of (take l.term-index l.terms);
}
