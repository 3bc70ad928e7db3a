use Rattle.std.proofs.Common.{rules, ◌≡◌, max, arith, sym, ◌∙◌}
use Rattle.std.proofs.lemmas.Grind.{common_steps}
use Rattle.pp_worker_tests.proofs.Spans.{one_more}
use Rattle.pp_worker_tests.proofs.tests.cells.greatest_of.Goals as goal

pub loop-done-preserved : goal.loop-done-preserved
loop-done-preserved c =
    let is : c.max-top.result ≡ max c.loop-done.top c.height.result = first_of (search rules, grind (arith, common_steps)) in
    is ∙ ((λ i. max (c.loop-done.invariant i) (c.height.ensures i)) ∙ sym (one_more c.args.low c.loop-done.done))
