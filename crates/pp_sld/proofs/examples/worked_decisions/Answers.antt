use Rattle.pp_sld.proofs.Worked.{product_beyond_fails, product_binds, factor_waits, plus_binds_the_third, plus_tests, atom_fails, indomain_splits, comparison_waits}
use Rattle.pp_sld.proofs.examples.worked_decisions.Goals as goal

pub returns-clause-product_beyond_fails : goal.returns-clause-product_beyond_fails
returns-clause-product_beyond_fails c = product_beyond_fails

pub returns-clause-product_binds : goal.returns-clause-product_binds
returns-clause-product_binds c = product_binds

pub returns-clause-factor_waits : goal.returns-clause-factor_waits
returns-clause-factor_waits c = factor_waits

pub returns-clause-plus_binds_the_third : goal.returns-clause-plus_binds_the_third
returns-clause-plus_binds_the_third c = plus_binds_the_third

pub returns-clause-plus_tests : goal.returns-clause-plus_tests
returns-clause-plus_tests c = plus_tests

pub returns-clause-atom_fails : goal.returns-clause-atom_fails
returns-clause-atom_fails c = atom_fails

pub returns-clause-indomain_splits : goal.returns-clause-indomain_splits
returns-clause-indomain_splits c = indomain_splits

pub returns-clause-comparison_waits : goal.returns-clause-comparison_waits
returns-clause-comparison_waits c = comparison_waits
