use Rattle.std.proofs.Common.{◌+◌, refl}
use Rattle.pp_propagation.specs.Runs.{opening}
use Rattle.pp_propagation.proofs.Passing.{counted, goes_on, passes_through}
use Rattle.pp_propagation.proofs.laws.run_is_made_of_turns.Goals as goal

pub returns-clause-counted : goal.returns-clause-counted
returns-clause-counted c = counted

pub returns-clause-goes_on : goal.returns-clause-goes_on
returns-clause-goes_on c = goes_on

pub returns-clause-passes_through : goal.returns-clause-passes_through
returns-clause-passes_through c = λ clauses goals depth n rest store t r h k. passes_through clauses goals depth n rest (n + rest) (opening goals store) t r refl h k
