use Rattle.pp_sld.proofs.Standing.{path_reaches_leaves, path_reaches_once, path_reaches_or_misses, path_misses_leaves, misses_dead, misses_place, misses_end}
use Rattle.pp_sld.proofs.works.paths_reach_or_miss.Goals as goal

pub returns-clause-leaves : goal.returns-clause-leaves
returns-clause-leaves c = path_reaches_leaves

pub returns-clause-once : goal.returns-clause-once
returns-clause-once c = path_reaches_once

pub returns-clause-either : goal.returns-clause-either
returns-clause-either c = path_reaches_or_misses

pub returns-clause-nothing : goal.returns-clause-nothing
returns-clause-nothing c = path_misses_leaves

pub returns-clause-dead : goal.returns-clause-dead
returns-clause-dead c = misses_dead

pub returns-clause-no_place : goal.returns-clause-no_place
returns-clause-no_place c = misses_place

pub returns-clause-past_end : goal.returns-clause-past_end
returns-clause-past_end c = misses_end
