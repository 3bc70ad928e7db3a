use Rattle.std.proofs.Common.{◌≡◌, ◌++◌, All}
use Rattle.pp_term.specs.WellFormed.{IsClause}
use Rattle.pp_run.proofs.run.table_of.Given as goal

abbrev pub invariant-loop-clause : goal.invariant-loop-clause
invariant-loop-clause l = record {
  table : l.table ++ l.clause-iterator.rest.items ≡ l.fn.clauses;
  formed : All IsClause l.clause-iterator.rest.items;
}
