-- The integers that a term may be, as its first cell tells them.
use Rattle.std.specs.Prelude.{ℕ, [], ◌∷◌, Option, Some, None}
use Rattle.std.specs.FinSet as set
use Rattle.pp_algebra.specs.Rows.{Domain, Domains}
use Rattle.pp_row.specs.declared.cell.Cell.{Cell}
use Rattle.pp_row.specs.declared.cell.Cell.TheVariants.{Int, Atom, Compound, Var}

-- None where the term may be something else
abbrev pub values_at : Domains ℕ → Cell → Option Domain
values_at ds (Int n) = Some (set.from_list (n ∷ []))
values_at ds (Atom a) = None
values_at ds (Compound f k) = None
values_at ds (Var v) = ds v
