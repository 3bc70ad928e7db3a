use Rattle.pp_run.specs.Made.{IsRanOf}
use Rattle.pp_run.proofs.Serving.{of_ok, summed}
use Rattle.pp_run.proofs.finish.finish_make.Goals as goal

pub returns-in-Ok-summary-clause-replied : goal.returns-in-Ok-summary-clause-replied
returns-in-Ok-summary-clause-replied g c = λ p n old new writes ran.
    summed c.args.settings p old new c.in-Ok.ran (of_ok (IsRanOf p c.args.settings old new) c.args.ran c.in-Ok.ran c.in-Ok.is ran) _ _ _ c.in-Ok-summary.summary.status _ c.in-Ok-summary.summary.bytes.items
    c.deref.ensures.value c.in-Ok-summary.ensures.status c.written.ensures.wrote n writes c.in-Ok-summary.ensures.text
