use Rattle.std.proofs.Common.{◌≡◌, map, take}
use Rattle.pp_language.specs.Printing.{name_at}
use Rattle.pp_build.proofs.clauses.numbers.Given as goal

abbrev pub invariant-loop-i : goal.invariant-loop-i
invariant-loop-i l = map (name_at l.names) l.numbers.items ≡ take l.i l.texts
