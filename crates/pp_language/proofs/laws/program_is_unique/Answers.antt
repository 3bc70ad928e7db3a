use Rattle.pp_language.proofs.OneFault.{one_program, one_limit, not_both}
use Rattle.pp_language.proofs.StatementParts.{says_once}
use Rattle.pp_language.proofs.laws.program_is_unique.Goals as goal

pub returns-clause-program : goal.returns-clause-program
returns-clause-program c = one_program says_once

pub returns-clause-limit : goal.returns-clause-limit
returns-clause-limit c = one_limit says_once

pub returns-clause-either : goal.returns-clause-either
returns-clause-either c = not_both says_once
