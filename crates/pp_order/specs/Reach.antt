-- Where a variable with a domain may go, as the first cell of a term tells it.
use Rattle.std.specs.Prelude.{◌≡◌, ℕ, true, Option, Some, None}
use Rattle.std.specs.FinSet as set
use Rattle.pp_algebra.specs.Rows.{Domain, Domains}
use Rattle.pp_algebra.specs.Covers.{IsWithin}
use Rattle.pp_row.specs.declared.cell.Cell.{Cell}
use Rattle.pp_row.specs.declared.cell.Cell.TheVariants.{Int, Atom, Compound, Var}

abbrev pub Reaches : Domains ℕ → Option Domain → Cell → Type 0
Reaches ds None c = Unit {0}
Reaches ds (Some d) (Int n) = set.contains d n ≡ true
Reaches ds (Some d) (Atom a) = ⊥
Reaches ds (Some d) (Compound f k) = ⊥
Reaches ds (Some d) (Var w) = IsWithin d (ds w)
