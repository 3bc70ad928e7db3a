use Rattle.pp_words.proofs.Asked.{command_asked, usage_asked}
use Rattle.pp_words.proofs.words.read_words.Goals as goal

pub returns-clause-command : goal.returns-clause-command
returns-clause-command c = command_asked _ c.asked_by.result c.asked_by.ensures

pub returns-clause-usage : goal.returns-clause-usage
returns-clause-usage c = usage_asked _ c.asked_by.result c.asked_by.ensures
