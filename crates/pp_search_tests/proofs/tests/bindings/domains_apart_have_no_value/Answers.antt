use Rattle.std.proofs.Common.{◌<◌, ◌≤◌, length, arith}
use Rattle.pp_search_tests.proofs.Marks.{kept, back}
use Rattle.pp_search_tests.proofs.tests.bindings.domains_apart_have_no_value.Goals as goal

pub undo-requires-2 : goal.undo-requires-2
undo-requires-2 g c =
    let m = c.mark-mark.result in
    let first : m < length c.variables-bindings.result = omega (arith, c.mark-mark.ensures.place) in
    let one = kept m c.variables-bindings.result c.expect_unified.new.bindings c.expect_unified.ensures first in
    record { kept = kept m c.undo.new.self c.expect_unified-2.new.bindings c.expect_unified-2.ensures (back m m c.expect_unified.new.bindings c.undo.new.self c.undo.ensures (omega arith) one) }

pub undo-requires-3 : goal.undo-requires-3
undo-requires-3 g c =
    let m = c.mark-mark.result in
    let first : m < length c.variables-bindings.result = omega (arith, c.mark-mark.ensures.place) in
    let one = kept m c.variables-bindings.result c.expect_unified.new.bindings c.expect_unified.ensures first in
    let two = kept m c.undo.new.self c.expect_unified-2.new.bindings c.expect_unified-2.ensures (back m m c.expect_unified.new.bindings c.undo.new.self c.undo.ensures (omega arith) one) in
    record { kept = kept m c.undo-2.new.self c.expect_unified-3.new.bindings c.expect_unified-3.ensures (back m m c.expect_unified-2.new.bindings c.undo-2.new.self c.undo-2.ensures (omega arith) two) }
