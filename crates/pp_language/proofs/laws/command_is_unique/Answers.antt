use Rattle.pp_language.proofs.CommandsRead.{one_command}
use Rattle.pp_language.proofs.laws.command_is_unique.Goals as goal

pub returns : goal.returns
returns c = one_command
