use Rattle.std.proofs.Common.{All}
use Rattle.pp_unify.specs.States.{present, IsOver}
use Rattle.pp_search_tests.proofs.tests.solving.listed.Given as goal

abbrev pub invariant-loop-cells : goal.invariant-loop-cells
invariant-loop-cells g l = All (IsOver (present l.bindings)) l.terms.items
