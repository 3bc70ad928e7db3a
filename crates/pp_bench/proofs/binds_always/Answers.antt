use Rattle.std.proofs.Common.{◌≡◌, suc, ◌≤◌, ap, ◌∙◌, arith, length, length-append}
use Rattle.std.proofs.lemmas.List.{length-take-le}
use Rattle.pp_bench.proofs.binds_always.Goals as goal

pub loop-preserved : goal.loop-preserved
loop-preserved c =
    let before = c.loop.bindings in
    let bound = c.unified.new.bindings in
    let m = c.mark-mark.result in
    let u = c.unified.ensures in
    let within : suc m ≤ length bound = omega (arith, c.loop.invariant, ap length u.1, length-append before u.0) in
    let same : length c.undo.new.self ≡ suc m = ap length c.undo.ensures ∙ length-take-le (suc m) bound within in
    omega (arith, same)
