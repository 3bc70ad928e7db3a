use Rattle.pp_algebra.proofs.Law.{least_row-IsCanonical, least_row-covers, least_row-least}
use Rattle.pp_algebra.proofs.WideLeast.{least_is_row}
use Rattle.pp_algebra.proofs.laws.generalisation_is_least.Goals as goal

pub returns-clause-canonical : goal.returns-clause-canonical
returns-clause-canonical c = least_row-IsCanonical

pub returns-clause-covers : goal.returns-clause-covers
returns-clause-covers c = least_row-covers

pub returns-clause-least : goal.returns-clause-least
returns-clause-least c = least_row-least

pub returns-clause-row : goal.returns-clause-row
returns-clause-row c = least_is_row
