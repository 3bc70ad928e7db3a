-- The row of no columns.
use Rattle.std.proofs.Common.{[], refl}
use Rattle.std.proofs.lemmas.List.Elements.{All-nil}
use Rattle.pp_algebra.specs.Rows.{IsRow, IsWide}
use Rattle.pp_row.specs.Columns.{row_by}

pub no_row : IsRow (row_by [] [])
no_row = record { canonical = refl; wide = All-nil IsWide }
