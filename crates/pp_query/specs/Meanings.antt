-- What an item of a query stands for in the definitions of a text.
use Rattle.pp_algebra.specs.Solve.{equation, membership}
use Rattle.pp_language.specs.Programs as programs
use Rattle.pp_row.specs.Columns.{trees_of}
use Rattle.pp_term.specs.declared.query.Item.{Item}
use Rattle.pp_term.specs.declared.query.Item.TheVariants as items
use Rattle.pp_term.specs.Meanings.{members_by, shape_of, mode_of}

abbrev pub item_of : Item → programs.QueryItem
item_of (items.Equate a b) = programs.solves (equation a b)
item_of (items.Member t d) = programs.solves (membership t (members_by d))
item_of (items.Infer s ts m) = programs.infers (record { shape = shape_of s; arguments = trees_of ts }) (mode_of m)
