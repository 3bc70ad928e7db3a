use Rattle.pp_algebra.proofs.Law.{joins_law}
use Rattle.pp_algebra.proofs.Sets.{least_in_parts, least_of_more}
use Rattle.pp_algebra.proofs.laws.joins_give_the_least_generalisation.Goals as goal

pub returns-clause-joins : goal.returns-clause-joins
returns-clause-joins c = λ n r rs j h s. joins_law n r rs j h s.0 s.1

pub returns-clause-parts : goal.returns-clause-parts
returns-clause-parts c = least_in_parts

pub returns-clause-more : goal.returns-clause-more
returns-clause-more c = least_of_more
