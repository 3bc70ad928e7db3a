use Rattle.std.proofs.Common.{◌≡◌, ◌++◌, map, drop}
use Rattle.pp_language.specs.Answers.{lines}
use Rattle.pp_language.specs.Told.{change_line}
use Rattle.pp_propagation.specs.Histories.{Change as Told}
use Rattle.pp_watch.specs.Watching.{change_by}
use Rattle.pp_watch.proofs.lines.lines_of.Given as goal

abbrev pub invariant-loop-change : goal.invariant-loop-change
invariant-loop-change l =
    l.out.items ++ lines (map (λ (c : Told). change_line l.names c.turn c.goal c.given) (map change_by (drop l.change-index l.changes)))
    ≡ lines (map (λ (c : Told). change_line l.names c.turn c.goal c.given) (map change_by l.changes))
