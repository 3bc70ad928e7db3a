use Rattle.std.proofs.Common.{◌≡◌, ◌<◌, length}
use Rattle.pp_row.specs.Reading.{forest, from}
use Rattle.pp_goal.specs.Arguments.{after}
use Rattle.pp_goal.proofs.arguments.place_of.Given as goal

abbrev pub invariant-loop : goal.invariant-loop
invariant-loop l = record { here : from l.cells l.at ≡ after l.counter (forest l.cells); within : l.at < length l.cells }
