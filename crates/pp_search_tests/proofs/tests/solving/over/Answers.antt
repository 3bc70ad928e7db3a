use Rattle.pp_unify.specs.States.{present}
use Rattle.pp_unify.proofs.Overs.{over_cells}
use Rattle.pp_search_tests.proofs.tests.solving.over.Goals as goal

pub returns : goal.returns
returns g c = over_cells (present c.args.bindings.now) c.term-term.result c.cells.result.now c.args.first c.len.result c.cells.ensures.cells c.len.ensures.count (c.all_there.ensures.0 c.if-all_there.true)
