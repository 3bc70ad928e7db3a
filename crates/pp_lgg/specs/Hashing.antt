-- What is hashed of a pair: all cells of its two terms.
use Rattle.std.specs.Prelude.{List, ◌++◌}
use Rattle.std.specs.Hash as fed
use Rattle.pp_row.specs.declared.cell.Cell.{Cell}
use Rattle.pp_row.specs.declared.cell.Cell.TheVariants.{Int, Atom, Compound, Var}
use Rattle.pp_row.specs.contracts.cell.CellPartialEq.TheImpl.{eq-value}
use Rattle.pp_row.proofs.Decide.{cell_decides}

abbrev pub cell_writes : Cell → fed.HashWrites
cell_writes (Int n) = fed.u8 0 ++ fed.i64 n
cell_writes (Atom a) = fed.u8 1 ++ fed.u32 a
cell_writes (Compound f k) = fed.u8 2 ++ fed.u32 f ++ fed.u32 k
cell_writes (Var v) = fed.u8 3 ++ fed.u32 v

-- how many cells there are, and then each
abbrev pub writes : List Cell → fed.HashWrites
writes cs = fed.slice cell_writes cs

-- equal cells are hashed alike
pub cells_alike : fed.Alike eq-value.it cell_writes
cells_alike = fed.same_Alike cell_writes cell_decides
