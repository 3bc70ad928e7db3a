use Rattle.std.proofs.Common.{◌≡◌, ◌++◌, map, drop}
use Rattle.pp_language.specs.Printing.{term_text}
use Rattle.pp_print.proofs.Listed.{listed}
use Rattle.pp_print.proofs.rows.write_columns.Given as goal

abbrev pub invariant-loop-column : goal.invariant-loop-column
invariant-loop-column l =
    l.out.items ++ listed l.separator (map (term_text l.names) (drop l.column-index l.columns))
    ≡ l.initial.out.items ++ listed l.initial.separator (map (term_text l.names) l.columns)
