use Rattle.std.proofs.Common.{[], sym, ◌∙◌, append-nil}
use Rattle.pp_resolve.proofs.Saved.{taken_back}
use Rattle.pp_resolve.proofs.solve.solve.Goals as goal

pub returns-in-Ok-false-clause-stays : goal.returns-in-Ok-false-clause-stays
returns-in-Ok-false-clause-stays c _ = taken_back c.args.bindings.now c.perform.new.bindings c.undo.new.self c.mark-mark.result c.mark-mark.ensures.place c.in-Ok-false.ensures.kept c.undo.ensures

pub returns-in-Ok-false-clause-kept : goal.returns-in-Ok-false-clause-kept
returns-in-Ok-false-clause-kept c = ([], taken_back c.args.bindings.now c.perform.new.bindings c.undo.new.self c.mark-mark.result c.mark-mark.ensures.place c.in-Ok-false.ensures.kept c.undo.ensures ∙ sym (append-nil c.args.bindings.now))

pub returns-in-Err-clause-err : goal.returns-in-Err-clause-err
returns-in-Err-clause-err c = taken_back c.args.bindings.now c.perform.new.bindings c.undo-in-Err.new.self c.mark-mark.result c.mark-mark.ensures.place c.in-Err.ensures.kept c.undo-in-Err.ensures

pub returns-in-Err-clause-kept : goal.returns-in-Err-clause-kept
returns-in-Err-clause-kept c = ([], taken_back c.args.bindings.now c.perform.new.bindings c.undo-in-Err.new.self c.mark-mark.result c.mark-mark.ensures.place c.in-Err.ensures.kept c.undo-in-Err.ensures ∙ sym (append-nil c.args.bindings.now))
