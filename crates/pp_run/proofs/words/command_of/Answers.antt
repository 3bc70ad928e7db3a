use Rattle.std.proofs.Common.{Err, ap}
use Rattle.pp_run.proofs.words.command_of.Goals as goal

pub returns-in-Err-Usage : goal.returns-in-Err-Usage
returns-in-Err-Usage c = c.in-Err-Usage.ensures.usage (ap Err c.in-Err-Usage.field-0-is)
