use Rattle.std.proofs.Common.{◌≡◌, map, take}
use Rattle.std.specs.Prelude.{filter}
use Rattle.pp_algebra.specs.Rows.{Row}
use Rattle.pp_store.specs.Changing.{face_at, differs}
use Rattle.pp_store.specs.Patterns.{row_in}
use Rattle.pp_store.specs.Queries.{goals_in}
use Rattle.pp_store.proofs.changed.changed.Given as goal

abbrev pub invariant-loop-i : goal.invariant-loop-i
invariant-loop-i l = (old : Row) → l.before ≡ map (face_at (goals_in l.goals) old) l.numbers → l.changed.items ≡ filter (differs (goals_in l.goals) old (row_in l.pattern)) (take l.i l.numbers)
