use Rattle.pp_unify.specs.States.{present}
use Rattle.pp_unify.proofs.Overs.{over_zero}
use Rattle.pp_search_tests.proofs.tests.solving.own.Goals as goal

pub returns : goal.returns
returns g c = over_zero (present c.args.bindings.now) c.over.result c.over.ensures
