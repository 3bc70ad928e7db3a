use Rattle.pp_clause.specs.Table.{AreOut}
use Rattle.pp_clause.proofs.index.Index.is_end.Given as goal

abbrev pub invariant-loop-place : goal.invariant-loop-place
invariant-loop-place l = AreOut l.first l.self-inside.tops.items l.from l.place
