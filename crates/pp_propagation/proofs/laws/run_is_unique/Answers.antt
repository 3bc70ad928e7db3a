use Rattle.pp_propagation.specs.Runs.{opening}
use Rattle.pp_propagation.proofs.Once.{turn_once, run_on_once}
use Rattle.pp_propagation.proofs.Exists.{all_are_goals, has_run_on, has_run, run_once}
use Rattle.pp_propagation.proofs.laws.run_is_unique.Goals as goal

pub returns-clause-turn : goal.returns-clause-turn
returns-clause-turn c = turn_once

pub returns-clause-from_store : goal.returns-clause-from_store
returns-clause-from_store c = λ clauses goals depth turns store.
    let h = has_run_on clauses goals depth turns (opening goals store) (all_are_goals goals) in
    (h.0, h.1, λ q k. run_on_once clauses goals depth turns (opening goals store) h.0 q h.1 k)

pub returns-clause-of_query : goal.returns-clause-of_query
returns-clause-of_query c = λ clauses q depth turns. let h = has_run clauses q depth turns in (h.0, h.1, λ w k. run_once clauses q depth turns h.0 w h.1 k)
