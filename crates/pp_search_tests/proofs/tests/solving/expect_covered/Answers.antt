use Rattle.std.proofs.Common.{sym, subst, All}
use Rattle.pp_unify.specs.States.{present, IsOver}
use Rattle.pp_search_tests.proofs.tests.solving.expect_covered.Goals as goal

pub is_covered-requires : goal.is_covered-requires
is_covered-requires g c = record { over = subst (All (IsOver (present c.args.bindings.now))) (sym c.as_slice.ensures.value) c.listed-terms.ensures }
