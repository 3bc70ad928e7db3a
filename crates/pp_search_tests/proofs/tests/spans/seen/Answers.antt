use Rattle.pp_unify.specs.States.{present}
use Rattle.pp_unify.proofs.Whole.{whole_forest, whole_over}
use Rattle.pp_search_tests.proofs.tests.spans.seen.Goals as goal

pub domain_at-requires-clause-whole : goal.domain_at-requires-clause-whole
domain_at-requires-clause-whole g c = whole_forest c.over-term.result c.cells-lent.result.now c.cells-lent.ensures.cells c.cells-lent.ensures.term

pub domain_at-requires-clause-over : goal.domain_at-requires-clause-over
domain_at-requires-clause-over g c = whole_over (present c.args.bindings.now) c.over-term.result c.cells-lent.result.now c.args.first c.cells-lent.ensures.cells c.over-term.ensures

pub value_at-requires-clause-whole : goal.value_at-requires-clause-whole
value_at-requires-clause-whole g c = whole_forest c.over-term.result c.cells-lent.result.now c.cells-lent.ensures.cells c.cells-lent.ensures.term

pub value_at-requires-clause-over : goal.value_at-requires-clause-over
value_at-requires-clause-over g c = whole_over (present c.args.bindings.now) c.over-term.result c.cells-lent.result.now c.args.first c.cells-lent.ensures.cells c.over-term.ensures
