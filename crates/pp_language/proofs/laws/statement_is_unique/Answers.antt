use Rattle.pp_language.proofs.StatementParts.{says_once}
use Rattle.pp_language.proofs.laws.statement_is_unique.Goals as goal

pub returns : goal.returns
returns c = says_once
