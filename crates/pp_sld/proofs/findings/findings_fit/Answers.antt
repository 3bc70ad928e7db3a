use Rattle.pp_sld.proofs.Fitting.{finding_fits, leaves_fit, leaves_join, fitting_is_found}
use Rattle.pp_sld.proofs.Joining.{none-fits, join-fits}
use Rattle.pp_sld.proofs.findings.findings_fit.Goals as goal

pub returns-clause-rows : goal.returns-clause-rows
returns-clause-rows c = finding_fits

pub returns-clause-leaves : goal.returns-clause-leaves
returns-clause-leaves c = leaves_fit

pub returns-clause-parts : goal.returns-clause-parts
returns-clause-parts c = leaves_join

pub returns-clause-found : goal.returns-clause-found
returns-clause-found c = fitting_is_found

pub returns-clause-empty : goal.returns-clause-empty
returns-clause-empty c = none-fits

pub returns-clause-join : goal.returns-clause-join
returns-clause-join c = join-fits
