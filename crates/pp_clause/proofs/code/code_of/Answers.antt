use Rattle.std.proofs.Common.{ap}
use Rattle.pp_term.specs.Meanings.{goal_of, members_by}
use Rattle.pp_clause.proofs.code.code_of.Goals as goal

pub returns-in-Member-clause-code : goal.returns-in-Member-clause-code
returns-in-Member-clause-code c = (members_by c.in-Member.field-1, ap (λ g. (goal_of g).shape) c.in-Member.is)
