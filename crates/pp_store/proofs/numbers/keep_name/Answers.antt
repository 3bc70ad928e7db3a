use Rattle.pp_store.proofs.FreshNumbers.{name_stays, name_taken}
use Rattle.pp_store.proofs.numbers.keep_name.Goals as goal

pub returns-in_default : goal.returns-in_default
returns-in_default c = record { kept = λ count taken h free. name_stays c.args.first count c.args.name taken c.args.numbers.now.items h }

pub returns-then-index-first : goal.returns-then-index-first
returns-then-index-first c = record { kept = λ count taken h free. name_taken c.args.first count c.args.name c.in-Var.variable taken c.args.numbers.now.items h free c.requires.old }

pub returns-else-index-first : goal.returns-else-index-first
returns-else-index-first c = record { kept = λ count taken h free. name_stays c.args.first count c.args.name taken c.args.numbers.now.items h }
