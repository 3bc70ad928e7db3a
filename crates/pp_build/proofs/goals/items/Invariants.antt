use Rattle.std.proofs.Common.{◌≡◌, map}
use Rattle.pp_query.specs.Meanings.{item_of}
use Rattle.pp_build.specs.Values.{item_from}
use Rattle.pp_build.proofs.goals.items.Given as goal

abbrev pub invariant-loop-entry : goal.invariant-loop-entry
invariant-loop-entry l = map item_of l.items.items ≡ map (item_from l.names l.parts) l.yielded
