use Rattle.std.proofs.Common.{refl, ap, map}
use Rattle.std.proofs.lemmas.List.Elements.{All-map}
use Rattle.pp_language.specs.Commands.{AreWordsOfAlone}
use Rattle.pp_propagation.specs.Watchers.{HasRoom}
use Rattle.pp_run.proofs.Commands.{none_asked, one_asked, runs_text, text_replied, text_noted}
use Rattle.pp_run.proofs.EndingLemmas.{after_bad_words}
use Rattle.pp_run.proofs.Refusing.{syntax_by, limit_by}
use Rattle.pp_run.proofs.Serving.{refused_replied, given_answered, given_noted}
use Rattle.pp_run.proofs.command.alone.Goals as goal

pub returns-in-Ok-None-clause-replied : goal.returns-in-Ok-None-clause-replied
returns-in-Ok-None-clause-replied g c = after_bad_words AreWordsOfAlone _ _ _ _ _ _ _ (none_asked AreWordsOfAlone _ _ c.in-Ok-None.ensures c.in-Ok-None.field-0-is) refl c.written.ensures.wrote

pub returns-in-Ok-None-clause-words : goal.returns-in-Ok-None-clause-words
returns-in-Ok-None-clause-words g c = λ command h. absurd (none_asked AreWordsOfAlone _ _ c.in-Ok-None.ensures c.in-Ok-None.field-0-is command h)

pub returns-in-Err-given-clause-replied : goal.returns-in-Err-given-clause-replied
returns-in-Err-given-clause-replied g c =
    let command = c.in-Ok-Some.command in
    let asked = one_asked AreWordsOfAlone _ _ c.in-Ok-Some.ensures command c.in-Ok-Some.field-0-is in
    text_replied AreWordsOfAlone _ command asked _ _ _ _ _ (runs_text command.kind asked.1) _ (refused_replied command.settings command.trace _ _ _ c.in-Err-given.status _ c.in-Err-given.ensures.refused)

pub returns-in-Err-given-clause-usage : goal.returns-in-Err-given-clause-usage
returns-in-Err-given-clause-usage g c = λ unserved. absurd (unserved c.in-Ok-Some.command (one_asked AreWordsOfAlone _ _ c.in-Ok-Some.ensures c.in-Ok-Some.command c.in-Ok-Some.field-0-is))

pub returns-in-Err-given-clause-syntax : goal.returns-in-Err-given-clause-syntax
returns-in-Err-given-clause-syntax g c = syntax_by AreWordsOfAlone _ _ _ _ _ _ _ (returns-in-Err-given-clause-replied g c)

pub returns-in-Err-given-clause-limit : goal.returns-in-Err-given-clause-limit
returns-in-Err-given-clause-limit g c = limit_by AreWordsOfAlone _ _ _ _ _ _ _ (returns-in-Err-given-clause-replied g c)

pub returns-clause-replied : goal.returns-clause-replied
returns-clause-replied g c =
    let command = c.in-Ok-Some.command in
    let asked = one_asked AreWordsOfAlone _ _ c.in-Ok-Some.ensures command c.in-Ok-Some.field-0-is in
    let p = c.in-Ok.program in
    text_replied AreWordsOfAlone _ command asked _ _ _ _ _ (runs_text command.kind asked.1) _
    (given_answered command.settings command.trace p _ _ _ (ap (map _) c.deref.ensures.value) _ _ _ _ _ (ap g.K.Sink.taken c.in-Ok.ensures.unwritten) _ c.run_alone-ran.result c.in-Ok.ensures.given c.run_alone-ran.ensures.run
    (λ text writes small ran. c.finish_text.ensures.replied p text _ refl refl writes small ran))

pub returns-clause-usage : goal.returns-clause-usage
returns-clause-usage g c = λ unserved. absurd (unserved c.in-Ok-Some.command (one_asked AreWordsOfAlone _ _ c.in-Ok-Some.ensures c.in-Ok-Some.command c.in-Ok-Some.field-0-is))

pub returns-clause-memory : goal.returns-clause-memory
returns-clause-memory g c = λ _.
    let command = c.in-Ok-Some.command in
    let asked = one_asked AreWordsOfAlone _ _ c.in-Ok-Some.ensures command c.in-Ok-Some.field-0-is in
    text_noted AreWordsOfAlone _ command asked _ _ (runs_text command.kind asked.1) _
    (given_noted command.settings c.in-Ok.program _ _ c.run_alone-ran.result (All-map HasRoom _ _ c.requires.room) c.run_alone-ran.ensures.run c.run_alone-ran.ensures.noted _ _ c.in-Ok.ensures.given)
