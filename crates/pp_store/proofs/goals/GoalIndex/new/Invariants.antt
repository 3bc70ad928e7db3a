use Rattle.std.proofs.Common.{◌≡◌, ◌++◌, map, drop}
use Rattle.pp_propagation.specs.Stores.{goals_of}
use Rattle.pp_query.specs.Meanings.{item_of}
use Rattle.pp_store.specs.Queries.{asked_by, goals_in}
use Rattle.pp_store.proofs.Candidates.{AreListed}
use Rattle.pp_store.proofs.goals.GoalIndex.new.Given as goal

abbrev pub invariant-loop-item : goal.invariant-loop-item
invariant-loop-item l = record {
  listed : AreListed l.query l.asked.items l.naming;
  goals : map asked_by l.asked.items ++ goals_of (map item_of (drop l.item-index l.query.items)) ≡ goals_in l.query;
}
