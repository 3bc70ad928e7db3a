use Rattle.pp_algebra.proofs.AlwaysSolved.{rows_solve, pairs_solve}
use Rattle.pp_algebra.proofs.laws.solving_ends.Goals as goal

pub returns-clause-rows : goal.returns-clause-rows
returns-clause-rows c = rows_solve

pub returns-clause-pairs : goal.returns-clause-pairs
returns-clause-pairs c = pairs_solve
