use Rattle.std.proofs.Common.{◌≡◌, take, []}
use Rattle.std.specs.Prelude.{nat_eq}
use Rattle.pp_algebra.specs.Terms.{variables_all}
use Rattle.pp_algebra.specs.Canon.{firsts}
use Rattle.pp_row.specs.Columns.{trees_of}
use Rattle.pp_store.proofs.rows.variables_of.Given as goal

abbrev pub invariant-loop-term : goal.invariant-loop-term
invariant-loop-term l = l.names.keys ≡ firsts nat_eq [] (variables_all (trees_of (take l.term-index l.terms)))
