-- The row of free variables, where a search begins.
use Rattle.std.specs.Prelude.{List, length, Option}
use Rattle.pp_algebra.specs.Rows.{Domain, Row}
use Rattle.pp_algebra.specs.Numbered.{variables_from}

abbrev pub free_row : List (Option Domain) → Row
free_row ds = record { columns = variables_from 0 (length ds); domains = ds }
