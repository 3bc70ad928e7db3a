use Rattle.pp_unify.specs.States.{present}
use Rattle.pp_unify.proofs.Whole.{whole_forest, whole_over}
use Rattle.pp_search_tests.proofs.tests.spans.expect_narrowed.Goals as goal

pub narrow_at-requires-clause-whole : goal.narrow_at-requires-clause-whole
narrow_at-requires-clause-whole g c = whole_forest c.over-term.result c.cells-lent.result.now c.cells-lent.ensures.cells c.cells-lent.ensures.term

pub narrow_at-requires-clause-over : goal.narrow_at-requires-clause-over
narrow_at-requires-clause-over g c = whole_over (present c.args.bindings.now) c.over-term.result c.cells-lent.result.now c.args.first c.cells-lent.ensures.cells c.over-term.ensures
