use Rattle.pp_unify.specs.States.{present}
use Rattle.pp_unify.proofs.Whole.{whole_forest, whole_over}
use Rattle.pp_search_tests.proofs.tests.spans.expect_equated.Goals as goal

pub equate_at-requires-clause-whole : goal.equate_at-requires-clause-whole
equate_at-requires-clause-whole g c = whole_forest c.over-term.result c.cells-lent.result.now c.cells-lent.ensures.cells c.cells-lent.ensures.term

pub equate_at-requires-clause-over : goal.equate_at-requires-clause-over
equate_at-requires-clause-over g c = whole_over (present c.args.bindings.now) c.over-term.result c.cells-lent.result.now c.args.first c.cells-lent.ensures.cells c.over-term.ensures
