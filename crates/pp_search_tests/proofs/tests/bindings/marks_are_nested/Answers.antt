use Rattle.std.proofs.Common.{◌<◌, ◌≤◌, length, arith}
use Rattle.pp_search_tests.proofs.Marks.{kept, back}
use Rattle.pp_search_tests.proofs.tests.bindings.marks_are_nested.Goals as goal

pub undo-requires-2 : goal.undo-requires-2
undo-requires-2 g c =
    let m = c.mark-outer.result in
    let k = c.mark-inner.result in
    let first : m < length c.variables-bindings.result = omega (arith, c.mark-outer.ensures.place) in
    let one = kept m c.variables-bindings.result c.expect_unified.new.bindings c.expect_unified.ensures first in
    let later : m ≤ k = omega (arith, one, c.mark-inner.ensures.place) in
    let inner : k < length c.expect_unified.new.bindings = omega (arith, c.mark-inner.ensures.place) in
    record { kept = back m k c.expect_unified-2.new.bindings c.undo.new.self c.undo.ensures later (kept k c.expect_unified.new.bindings c.expect_unified-2.new.bindings c.expect_unified-2.ensures inner) }
