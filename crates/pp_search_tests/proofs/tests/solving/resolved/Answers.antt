use Rattle.std.proofs.Common.{sym, subst, All}
use Rattle.pp_unify.specs.States.{present, IsOver}
use Rattle.pp_search_tests.proofs.tests.solving.resolved.Goals as goal

pub resolve_row-requires : goal.resolve_row-requires
resolve_row-requires g c = record { over = subst (All (IsOver (present c.args.bindings.now))) (sym c.as_slice.ensures.value) c.listed-terms.ensures }
