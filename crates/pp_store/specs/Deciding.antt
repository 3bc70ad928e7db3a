-- What becomes of items that are solved one after another, and the first cell of a term.
use Rattle.std.specs.Prelude.{ℕ}
use Rattle.pp_algebra.specs.Terms.{Tree, int, node, variable, count}
use Rattle.pp_row.specs.declared.cell.Cell.{Cell}
use Rattle.pp_row.specs.declared.cell.Cell.TheVariants.{Int, Var}
use Rattle.pp_row.specs.Cells.{head_of}

abbrev pub top_of : Tree ℕ → Cell
top_of (int n) = Int n
top_of (node f ts) = head_of f (count ts)
top_of (variable v) = Var v
