use Rattle.std.proofs.Common.{ap, sym, ◌∙◌}
use Rattle.pp_algebra.specs.Terms.{Trees, count}
use Rattle.pp_unify.specs.States.{present}
use Rattle.pp_unify.proofs.Whole.{whole_forest, whole_one, whole_over}
use Rattle.pp_search_tests.proofs.tests.spans.expect_equal.Goals as goal

pub unify_spans-requires-clause-left_whole : goal.unify_spans-requires-clause-left_whole
unify_spans-requires-clause-left_whole g c = whole_forest c.over-one.result c.cells-lefts.result.now c.cells-lefts.ensures.cells c.cells-lefts.ensures.term

pub unify_spans-requires-clause-right_whole : goal.unify_spans-requires-clause-right_whole
unify_spans-requires-clause-right_whole g c = whole_forest c.over-other.result c.cells-rights.result.now c.cells-rights.ensures.cells c.cells-rights.ensures.term

pub unify_spans-requires-clause-width : goal.unify_spans-requires-clause-width
unify_spans-requires-clause-width g c = ap (λ (ts : Trees _). count ts) (whole_one c.over-other.result c.cells-rights.result.now c.cells-rights.ensures.cells) ∙ sym (ap (λ (ts : Trees _). count ts) (whole_one c.over-one.result c.cells-lefts.result.now c.cells-lefts.ensures.cells))

pub unify_spans-requires-clause-left : goal.unify_spans-requires-clause-left
unify_spans-requires-clause-left g c = whole_over (present c.args.bindings.now) c.over-one.result c.cells-lefts.result.now _ c.cells-lefts.ensures.cells c.over-one.ensures

pub unify_spans-requires-clause-right : goal.unify_spans-requires-clause-right
unify_spans-requires-clause-right g c = whole_over (present c.args.bindings.now) c.over-other.result c.cells-rights.result.now _ c.cells-rights.ensures.cells c.over-other.ensures
