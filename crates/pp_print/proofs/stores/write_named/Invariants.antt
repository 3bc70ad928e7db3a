use Rattle.std.proofs.Common.{◌≡◌, ◌++◌, map}
use Rattle.std.specs.Slice.Iter.{iter_rest}
use Rattle.std.specs.Iterator.Adapters.{zip_first, zip_second}
use Rattle.pp_language.specs.Printing.{name_at}
use Rattle.pp_language.specs.Answers.{lines, named_lines}
use Rattle.pp_row.specs.Columns.{trees_of}
use Rattle.pp_print.proofs.stores.write_named.Given as goal

abbrev pub invariant-loop-name : goal.invariant-loop-name
invariant-loop-name l =
    l.out.items ++ lines (named_lines l.names (map (name_at l.names) (iter_rest (zip_first l.name-iterator))) (trees_of (iter_rest (zip_second l.name-iterator))))
    ≡ l.initial.out.items ++ lines (named_lines l.names (map (name_at l.names) (iter_rest (zip_first l.initial.name-iterator))) (trees_of (iter_rest (zip_second l.initial.name-iterator))))
