use Rattle.std.proofs.Common.{◌≤◌}
use Rattle.pp_clause.specs.Table.{AreOut}
use Rattle.pp_clause.proofs.index.Index.place_from.Given as goal

abbrev pub invariant-loop-place : goal.invariant-loop-place
invariant-loop-place l = record { later : l.from ≤ l.place; out : AreOut l.first l.self-inside.tops.items l.from l.place }
