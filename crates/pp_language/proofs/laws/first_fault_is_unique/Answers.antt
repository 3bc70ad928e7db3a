use Rattle.pp_language.proofs.OneFault.{grammar_has_no_fault, one_fault}
use Rattle.pp_language.proofs.StatementParts.{says_once}
use Rattle.pp_language.proofs.laws.first_fault_is_unique.Goals as goal

pub returns-clause-grammar : goal.returns-clause-grammar
returns-clause-grammar c = grammar_has_no_fault says_once

pub returns-clause-fault : goal.returns-clause-fault
returns-clause-fault c = one_fault
