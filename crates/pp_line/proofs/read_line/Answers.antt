use Rattle.pp_line.proofs.Read.{read_taken, read_refused}
use Rattle.pp_line.proofs.read_line.Goals as goal

pub returns-clause-taken : goal.returns-clause-taken
returns-clause-taken c = read_taken _ _ c.try_get_matches_from.result c.in_ok-command.ensures c.try_get_matches_from.ensures.matches c.try_get_matches_from.ensures.kinds

pub returns-clause-refused : goal.returns-clause-refused
returns-clause-refused c = read_refused _ _ c.try_get_matches_from.result c.in_ok-command.ensures c.try_get_matches_from.ensures.kinds
