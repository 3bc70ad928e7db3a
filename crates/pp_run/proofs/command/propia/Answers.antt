use Rattle.std.proofs.Common.{refl}
use Rattle.pp_language.specs.Commands.{AreWordsOf}
use Rattle.pp_words.proofs.Within.{workers_allowed, number_allowed}
use Rattle.pp_run.proofs.Commands.{none_asked, one_asked, runs_other, read_text, no_make, same_make, text_replied, make_replied, text_noted, make_noted}
use Rattle.pp_run.proofs.EndingLemmas.{after_bad_words}
use Rattle.pp_run.proofs.Refusing.{syntax_by, limit_by}
use Rattle.pp_run.proofs.command.propia.Goals as goal

pub returns-in-Ok-None-clause-replied : goal.returns-in-Ok-None-clause-replied
returns-in-Ok-None-clause-replied g c = after_bad_words AreWordsOf _ _ _ _ _ _ _ (none_asked AreWordsOf _ _ c.in-Ok-None.ensures c.in-Ok-None.field-0-is) refl c.written.ensures.wrote

pub returns-in-Ok-None-clause-words : goal.returns-in-Ok-None-clause-words
returns-in-Ok-None-clause-words g c = λ command h. absurd (none_asked AreWordsOf _ _ c.in-Ok-None.ensures c.in-Ok-None.field-0-is command h)

pub returns-in-Ok-None-clause-make : goal.returns-in-Ok-None-clause-make
returns-in-Ok-None-clause-make g c = λ command n h e. absurd (none_asked AreWordsOf _ _ c.in-Ok-None.ensures c.in-Ok-None.field-0-is command h)

pub make-requires-clause-number : goal.make-requires-clause-number
make-requires-clause-number g c = λ κs lives. number_allowed _ c.in-Ok-Some.command (one_asked AreWordsOf _ _ c.in-Ok-Some.ensures c.in-Ok-Some.command c.in-Ok-Some.field-0-is) c.in-Make.number c.in-Make.is

pub make-requires-clause-workers : goal.make-requires-clause-workers
make-requires-clause-workers g c = λ κs lives. workers_allowed _ c.in-Ok-Some.command (one_asked AreWordsOf _ _ c.in-Ok-Some.ensures c.in-Ok-Some.command c.in-Ok-Some.field-0-is)

pub text-requires-clause-workers : goal.text-requires-clause-workers
text-requires-clause-workers g c = λ κs lives. workers_allowed _ c.in-Ok-Some.command (one_asked AreWordsOf _ _ c.in-Ok-Some.ensures c.in-Ok-Some.command c.in-Ok-Some.field-0-is)

pub returns-in-Make-clause-replied : goal.returns-in-Make-clause-replied
returns-in-Make-clause-replied g c =
    let command = c.in-Ok-Some.command in
    let asked = one_asked AreWordsOf _ _ c.in-Ok-Some.ensures command c.in-Ok-Some.field-0-is in
    make_replied AreWordsOf _ command asked _ _ _ _ _ c.in-Make.number c.in-Make.is c.make.ensures.replied _

pub returns-in-Make-clause-make : goal.returns-in-Make-clause-make
returns-in-Make-clause-make g c = λ other n h e.
    let command = c.in-Ok-Some.command in
    let asked = one_asked AreWordsOf _ _ c.in-Ok-Some.ensures command c.in-Ok-Some.field-0-is in
    (same_make _ command other asked h c.in-Make.number n c.in-Make.is e _ _ _ _ _ c.make.ensures.replied, refl)

pub returns-in-Make-clause-memory : goal.returns-in-Make-clause-memory
returns-in-Make-clause-memory g c = λ e.
    let command = c.in-Ok-Some.command in
    let asked = one_asked AreWordsOf _ _ c.in-Ok-Some.ensures command c.in-Ok-Some.field-0-is in
    make_noted AreWordsOf _ command asked _ _ c.in-Make.number c.in-Make.is (c.make.ensures.memory e) _

pub returns-clause-replied : goal.returns-clause-replied
returns-clause-replied g c =
    let command = c.in-Ok-Some.command in
    let asked = one_asked AreWordsOf _ _ c.in-Ok-Some.ensures command c.in-Ok-Some.field-0-is in
    text_replied AreWordsOf _ command asked _ _ _ _ _ (runs_other command.kind c.in_default.not-Make) _ c.text.ensures.replied

pub returns-clause-usage : goal.returns-clause-usage
returns-clause-usage g c = λ unserved. absurd (unserved c.in-Ok-Some.command (one_asked AreWordsOf _ _ c.in-Ok-Some.ensures c.in-Ok-Some.command c.in-Ok-Some.field-0-is))

pub returns-clause-words : goal.returns-clause-words
returns-clause-words g c = λ command h. c.text.ensures.no_usage

pub returns-clause-make : goal.returns-clause-make
returns-clause-make g c = λ other n h e.
    let command = c.in-Ok-Some.command in
    let asked = one_asked AreWordsOf _ _ c.in-Ok-Some.ensures command c.in-Ok-Some.field-0-is in
    absurd (no_make _ command other asked h (runs_other command.kind c.in_default.not-Make) n e)

pub returns-clause-syntax : goal.returns-clause-syntax
returns-clause-syntax g c = syntax_by AreWordsOf _ _ _ _ _ _ _ (returns-clause-replied g c)

pub returns-clause-limit : goal.returns-clause-limit
returns-clause-limit g c = limit_by AreWordsOf _ _ _ _ _ _ _ (returns-clause-replied g c)

pub returns-clause-memory : goal.returns-clause-memory
returns-clause-memory g c = λ e.
    let command = c.in-Ok-Some.command in
    let asked = one_asked AreWordsOf _ _ c.in-Ok-Some.ensures command c.in-Ok-Some.field-0-is in
    text_noted AreWordsOf _ command asked _ _ (runs_other command.kind c.in_default.not-Make) _ (c.text.ensures.memory e)

pub returns-clause-drained : goal.returns-clause-drained
returns-clause-drained g c = λ command h r. c.text.ensures.drained (read_text command.kind c.text.result r)
