use Rattle.std.proofs.Common.{[], ap, sym, ◌∙◌, subst, arith, append-nil}
use Rattle.pp_algebra.specs.Terms.{count, variables_all}
use Rattle.pp_algebra.specs.Covers.{IsIn}
use Rattle.pp_resolve.proofs.Linked.{has_item}
use Rattle.pp_resolve.proofs.Showing.{count-trees}
use Rattle.pp_resolve.proofs.Saved.{taken_back}
use Rattle.pp_resolve.proofs.choose.enter.Goals as goal

pub enter-requires-clause-width : goal.enter-requires-clause-width
enter-requires-clause-width c =
    let it = has_item c.args.clauses.now c.args.number c.requires.number in
    ap count (c.head-head.ensures.head it.0 it.1) ∙ count-trees it.0.head ∙ c.requires.width it.0 it.1

pub enter-requires-clause-head : goal.enter-requires-clause-head
enter-requires-clause-head c v i =
    let it = has_item c.args.clauses.now c.args.number c.requires.number in
    let b = (c.requires.formed it.0 it.1).head.below v (subst (λ ts. IsIn v (variables_all ts)) (c.head-head.ensures.head it.0 it.1) i) in
    omega (arith, b, c.variables-amount.ensures it.0 it.1)

pub returns-in-Ok-false-clause-stays : goal.returns-in-Ok-false-clause-stays
returns-in-Ok-false-clause-stays c _ = taken_back c.args.bindings.now c.enter.new.self c.undo.new.self c.mark-mark.result c.mark-mark.ensures.place c.enter.ensures.kept c.undo.ensures

pub returns-in-Ok-false-clause-kept : goal.returns-in-Ok-false-clause-kept
returns-in-Ok-false-clause-kept c = ([], taken_back c.args.bindings.now c.enter.new.self c.undo.new.self c.mark-mark.result c.mark-mark.ensures.place c.enter.ensures.kept c.undo.ensures ∙ sym (append-nil c.args.bindings.now))

pub returns-in-Err-clause-err : goal.returns-in-Err-clause-err
returns-in-Err-clause-err c = taken_back c.args.bindings.now c.enter.new.self c.undo-in-Err.new.self c.mark-mark.result c.mark-mark.ensures.place c.enter.ensures.kept c.undo-in-Err.ensures

pub returns-in-Err-clause-kept : goal.returns-in-Err-clause-kept
returns-in-Err-clause-kept c = ([], taken_back c.args.bindings.now c.enter.new.self c.undo-in-Err.new.self c.mark-mark.result c.mark-mark.ensures.place c.enter.ensures.kept c.undo-in-Err.ensures ∙ sym (append-nil c.args.bindings.now))
