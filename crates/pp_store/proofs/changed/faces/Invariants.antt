use Rattle.std.proofs.Common.{◌≡◌, map, take}
use Rattle.pp_store.specs.Changing.{face_at}
use Rattle.pp_store.specs.Patterns.{row_in}
use Rattle.pp_store.specs.Queries.{goals_in}
use Rattle.pp_store.proofs.changed.faces.Given as goal

abbrev pub invariant-loop-number : goal.invariant-loop-number
invariant-loop-number l = l.faces.items ≡ map (face_at (goals_in l.goals) (row_in l.pattern)) (take l.number-index l.numbers)
