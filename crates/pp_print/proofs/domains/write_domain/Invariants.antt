use Rattle.std.proofs.Common.{◌≡◌, ◌++◌, map, drop}
use Rattle.pp_language.specs.Printing.{interval_text}
use Rattle.pp_print.proofs.Listed.{listed}
use Rattle.pp_print.proofs.domains.write_domain.Given as goal

abbrev pub invariant-loop-interval : goal.invariant-loop-interval
invariant-loop-interval l =
    l.out.items ++ listed l.separator (map interval_text (drop l.interval-index l.interval-items))
    ≡ l.initial.out.items ++ listed l.initial.separator (map interval_text l.interval-items)
