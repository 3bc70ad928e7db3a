use Rattle.pp_sld.proofs.Joining.{empty_is_unit, join-again, join-turned, join-grouped, join-stays}
use Rattle.pp_sld.proofs.findings.findings_are_a_lattice.Goals as goal

pub returns-clause-unit : goal.returns-clause-unit
returns-clause-unit c = empty_is_unit

pub returns-clause-idempotent : goal.returns-clause-idempotent
returns-clause-idempotent c = join-again

pub returns-clause-commutes : goal.returns-clause-commutes
returns-clause-commutes c = join-turned

pub returns-clause-associates : goal.returns-clause-associates
returns-clause-associates c = join-grouped

pub returns-clause-stays : goal.returns-clause-stays
returns-clause-stays c = join-stays
