use Rattle.pp_run.specs.Made.{IsRanOf}
use Rattle.pp_run.proofs.Serving.{of_ok, answered_text}
use Rattle.pp_run.proofs.finish.finish_text.Goals as goal

pub returns-in-Ok-answer-clause-replied : goal.returns-in-Ok-answer-clause-replied
returns-in-Ok-answer-clause-replied g c = λ p text old e f writes small ran.
    answered_text c.args.command.settings p old _ c.in-Ok.ran (of_ok (IsRanOf p c.args.command.settings old _) c.args.ran c.in-Ok.ran c.in-Ok.is ran) _ _ _ c.in-Ok-answer.reply.status _ c.in-Ok-answer.reply.bytes.items
    c.deref.ensures.value c.in-Ok-answer.ensures.status c.written.ensures.wrote c.args.command.trace text c.args.names.now c.args.query.now e f writes small c.in-Ok-answer.ensures.text
