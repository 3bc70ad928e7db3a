-- What a query stands for in the definitions of a text.
use Rattle.std.specs.Prelude.{List, map}
use Rattle.pp_language.specs.Texts.{Text}
use Rattle.pp_language.specs.Printing.{name_at}
use Rattle.pp_language.specs.Programs as programs
use Rattle.pp_term.specs.declared.query.Query.{Query}
use Rattle.pp_query.specs.Meanings.{item_of}

-- over these names
abbrev pub query_of : List Text → Query → programs.Query
query_of names q = record { variables = q.vars; named = map (name_at names) q.named; items = map item_of q.items }
