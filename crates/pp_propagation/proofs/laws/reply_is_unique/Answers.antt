use Rattle.pp_language.specs.Commands.{AreWordsOf, AreWordsOfAlone}
use Rattle.pp_language.proofs.CommandsRead.{one_command}
use Rattle.pp_propagation.proofs.OneReply.{reply_once}
use Rattle.pp_propagation.proofs.HasReply.{has_reply}
use Rattle.pp_propagation.proofs.laws.reply_is_unique.Goals as goal

pub returns-clause-words : goal.returns-clause-words
returns-clause-words c = one_command

pub returns-clause-alone_words : goal.returns-clause-alone_words
returns-clause-alone_words c = λ words x y h k. one_command words x y h.0 k.0

pub returns-clause-program : goal.returns-clause-program
returns-clause-program c = reply_once AreWordsOf one_command

pub returns-clause-alone : goal.returns-clause-alone
returns-clause-alone c = reply_once AreWordsOfAlone (λ words x y h k. one_command words x y h.0 k.0)

pub returns-clause-program_has : goal.returns-clause-program_has
returns-clause-program_has c = has_reply AreWordsOf

pub returns-clause-alone_has : goal.returns-clause-alone_has
returns-clause-alone_has c = has_reply AreWordsOfAlone
