use Rattle.std.proofs.Common.{◌≡◌, ◌++◌, take, All}
use Rattle.pp_row.specs.Cells.{IsLegalCell, cells_of_all}
use Rattle.pp_row.specs.Columns.{trees_of}
use Rattle.pp_clause.proofs.code.push_terms.Given as goal

abbrev pub invariant-loop-term : goal.invariant-loop-term
invariant-loop-term l = record {
  cells : l.cells.items ≡ l.initial.cells.items ++ cells_of_all (trees_of (take l.term-index l.terms));
  legal : All IsLegalCell (cells_of_all (trees_of (take l.term-index l.terms)));
}
