use Rattle.std.proofs.Common.{◌≡◌, ◌+◌, ◌≤◌, true, [], length, map}
use Rattle.pp_sld.specs.Works.{next_levels}
use Rattle.pp_path.specs.Works.{level_by, AreLevels}
use Rattle.pp_path.proofs.work.Work.next.Given as goal

abbrev pub invariant-loop : goal.invariant-loop
invariant-loop l =
    (16 ≤ l.self-inside.levels.capacity)
    × (length l.self-inside.levels.items ≤ l.self-inside.levels.capacity)
    × AreLevels l.self-inside.levels.items
    × (next_levels (map level_by l.self-inside.levels.items) ≡ next_levels (map level_by l.initial.self-inside.levels.items))
    × (l.self-inside.is_spent ≡ l.initial.self-inside.is_spent)
    × (l.self-inside.is_spent ≡ true → l.self-inside.levels.items ≡ [])
    × (length l.self-inside.levels.items + l.counter ≡ length l.initial.self-inside.levels.items)
