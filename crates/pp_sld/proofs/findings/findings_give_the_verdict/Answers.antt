use Rattle.pp_sld.proofs.Verdicts.{finding_join, finding_of_same, answer_is_added, loose_is_added, outcome_is}
use Rattle.pp_sld.proofs.Settled.{settled_stays}
use Rattle.pp_sld.proofs.findings.findings_give_the_verdict.Goals as goal

pub returns-clause-join : goal.returns-clause-join
returns-clause-join c = finding_join

pub returns-clause-same : goal.returns-clause-same
returns-clause-same c = finding_of_same

pub returns-clause-answer : goal.returns-clause-answer
returns-clause-answer c = answer_is_added

pub returns-clause-loose : goal.returns-clause-loose
returns-clause-loose c = loose_is_added

pub returns-clause-outcome : goal.returns-clause-outcome
returns-clause-outcome c = outcome_is

pub returns-clause-settled : goal.returns-clause-settled
returns-clause-settled c = settled_stays
