use Rattle.std.proofs.Common.{MatchOption, Option, subst}
use Rattle.std.specs.Prelude.{map, string_bytes}
use Rattle.pp_language.specs.declared.command.Command.{Command}
use Rattle.pp_language.specs.Commands.{AreWordsOf}
use Rattle.pp_propagation.specs.Replies.{IsUnserved}
use Rattle.pp_run.proofs.words.command_of_alone.Goals as goal

pub returns-in-None : goal.returns-in-None
returns-in-None c = λ command h.
    let ws = map string_bytes c.args.words.now in
    let none = subst (λ (o : Option Command). MatchOption o (IsUnserved AreWordsOf ws) (AreWordsOf ws)) c.in-None.is c.in_ok-command.ensures in
    none command h.0
