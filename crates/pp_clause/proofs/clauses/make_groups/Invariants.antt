use Rattle.std.proofs.Common.{◌≡◌, length}
use Rattle.pp_clause.specs.Table.{AddsEmpty}
use Rattle.pp_clause.proofs.clauses.make_groups.Given as goal

abbrev pub invariant-loop : goal.invariant-loop
invariant-loop l = record { added : AddsEmpty l.fn.groups.items l.groups.items; counted : length l.groups.items ≡ l.counter }
