use Rattle.std.proofs.Common.{◌≡◌, ◌++◌, map, take, drop}
use Rattle.std.specs.Prelude.{nat_eq}
use Rattle.pp_algebra.specs.Canon.{firsts, place}
use Rattle.pp_row.specs.Cells.{renamed}
use Rattle.pp_row.specs.Cells.{variables_among}
use Rattle.pp_row.proofs.term.Term.numbered.Given as goal

abbrev pub invariant-loop-i : goal.invariant-loop-i
invariant-loop-i l =
    let before = take l.i l.initial.cells.items in record {
      names : l.names.keys ≡ firsts nat_eq l.initial.names.keys (variables_among before);
      cells : l.cells.items ≡ map (renamed (place nat_eq l.names.keys)) before ++ drop l.i l.initial.cells.items;
    }
