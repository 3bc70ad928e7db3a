use Rattle.pp_sld.proofs.Fitting.{covered_adds_nothing, subtree_adds_nothing}
use Rattle.pp_sld.proofs.findings.covered_rows_add_nothing.Goals as goal

pub returns-clause-rows : goal.returns-clause-rows
returns-clause-rows c = covered_adds_nothing

pub returns-clause-subtree : goal.returns-clause-subtree
returns-clause-subtree c = subtree_adds_nothing
