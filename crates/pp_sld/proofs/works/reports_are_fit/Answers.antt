use Rattle.pp_sld.proofs.Reports.{nothing_is_found, leaves_are_found, leaves_are_skipped, report_is_fit}
use Rattle.pp_sld.proofs.works.reports_are_fit.Goals as goal

pub returns-clause-nothing : goal.returns-clause-nothing
returns-clause-nothing c = nothing_is_found

pub returns-clause-met : goal.returns-clause-met
returns-clause-met c = leaves_are_found

pub returns-clause-skipped : goal.returns-clause-skipped
returns-clause-skipped c = leaves_are_skipped

pub returns-clause-fit : goal.returns-clause-fit
returns-clause-fit c = report_is_fit
