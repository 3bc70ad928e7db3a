use Rattle.std.proofs.Common.{length, ap, ◌∙◌, arith}
use Rattle.std.proofs.lemmas.Result.{IfOk-weaker}
use Rattle.pp_algebra.specs.Terms.{none, more}
use Rattle.pp_row.specs.Reading.{forest}
use Rattle.pp_unify.specs.States.{present}
use Rattle.pp_goal.proofs.Places.{one_forest}
use Rattle.pp_goal.proofs.Solved.{right_cells, equal_decided, same_width, left_over, right_over}
use Rattle.pp_goal.proofs.solving.equate.Goals as goal

pub unify_spans-requires-clause-width : goal.unify_spans-requires-clause-width
unify_spans-requires-clause-width c =
    let cs = c.args.goal.now.arguments.now in
    let ls = c.term_from-left.result.now in
    same_width (forest cs) (forest ls) _ c.requires.two (one_forest ls c.term_from-left.ensures.whole ∙ ap (λ t. more t none) c.term_from-left.ensures.term) (right_cells cs (length ls) c.term_from-left.ensures.ends)

pub unify_spans-requires-clause-left : goal.unify_spans-requires-clause-left
unify_spans-requires-clause-left c =
    let cs = c.args.goal.now.arguments.now in
    let ls = c.term_from-left.result.now in
    left_over (present c.args.bindings.now) c.args.first (forest cs) (forest ls) (omega (arith, c.requires.two)) (one_forest ls c.term_from-left.ensures.whole ∙ ap (λ t. more t none) c.term_from-left.ensures.term) c.requires.lent.over

pub unify_spans-requires-clause-right : goal.unify_spans-requires-clause-right
unify_spans-requires-clause-right c =
    let cs = c.args.goal.now.arguments.now in
    let ls = c.term_from-left.result.now in
    right_over (present c.args.bindings.now) c.args.first (forest cs) _ (right_cells cs (length ls) c.term_from-left.ensures.ends) c.requires.lent.over

pub returns-clause-decided : goal.returns-clause-decided
returns-clause-decided c =
    let cs = c.args.goal.now.arguments.now in
    let ls = c.term_from-left.result.now in
    let r = present c.args.bindings.now in
    IfOk-weaker c.unify_spans.result _ _ (λ b h. equal_decided r c.args.first (forest cs) (forest ls) _ b _ c.requires.two (one_forest ls c.term_from-left.ensures.whole ∙ ap (λ t. more t none) c.term_from-left.ensures.term) (right_cells cs (length ls) c.term_from-left.ensures.ends) h) c.unify_spans.ensures.decided
