use Rattle.std.proofs.Common.{◌<◌, ◌≤◌, length, arith}
use Rattle.pp_search_tests.proofs.Marks.{kept, back}
use Rattle.pp_search_tests.proofs.tests.spans.a_variable_that_is_met_twice_is_checked.Goals as goal

pub undo-requires-2 : goal.undo-requires-2
undo-requires-2 g c =
    let m = c.mark-mark.result in
    let first : m < length c.variables-bindings.result = omega (arith, c.mark-mark.ensures.place) in
    let one = kept m c.variables-bindings.result c.expect_entered.new.bindings c.expect_entered.ensures first in
    record { kept = kept m c.undo.new.self c.expect_entered-2.new.bindings c.expect_entered-2.ensures (back m m c.expect_entered.new.bindings c.undo.new.self c.undo.ensures (omega arith) one) }
