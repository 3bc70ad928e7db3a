use Rattle.std.proofs.Common.{◌≡◌, ◌++◌, drop}
use Rattle.pp_language.specs.Printing.{ranged_texts}
use Rattle.pp_row.specs.Columns.{sets_of}
use Rattle.pp_print.proofs.Listed.{listed}
use Rattle.pp_print.proofs.rows.write_domains.Given as goal

abbrev pub invariant-loop-variable : goal.invariant-loop-variable
invariant-loop-variable l =
    l.out.items ++ listed l.separator (ranged_texts l.variable (sets_of (drop l.variable l.domains)))
    ≡ l.initial.out.items ++ listed l.initial.separator (ranged_texts 0 (sets_of l.domains))
