use Rattle.pp_algebra.proofs.Sets.{least_of_same, least_commutes, least_associates, least_is_idempotent}
use Rattle.pp_algebra.proofs.laws.generalisation_has_no_order.Goals as goal

pub returns-clause-same_rows : goal.returns-clause-same_rows
returns-clause-same_rows c = least_of_same

pub returns-clause-commutes : goal.returns-clause-commutes
returns-clause-commutes c = least_commutes

pub returns-clause-associates : goal.returns-clause-associates
returns-clause-associates c = least_associates

pub returns-clause-idempotent : goal.returns-clause-idempotent
returns-clause-idempotent c = least_is_idempotent
