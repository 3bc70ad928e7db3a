use Rattle.std.proofs.Common.{rules, ◌≤◌, ◌+◌, ◌-◌, List, max, arith, ap, sym, ◌∙◌}
use Rattle.std.proofs.lemmas.Grind.{common_steps}
use Rattle.pp_core.specs.Worths.{with_worths}
use Rattle.pp_worker_tests.specs.declared.tests.heights.Span.{Span}
use Rattle.pp_worker_tests.specs.Heights.{between}
use Rattle.pp_worker_tests.proofs.Spans.{seen_and_left}
use Rattle.pp_worker_tests.proofs.tests.searching.HeightsExplorer.search.Goals as goal

pub returns-clause-worth : goal.returns-clause-worth
returns-clause-worth c =
    let low = c.args.task.now.low in
    let high = c.args.task.now.high in
    let seen = c.scan-count.result in
    let within : seen.count ≤ high - low = first_of (search rules, grind (arith, common_steps)) in
    ap (λ k. max k c.args._under.now)
    (seen_and_left low high seen.count within
    ∙ (ap (λ k. max k (between (low + seen.count) high)) (sym c.scan-count.ensures.top)
    ∙ (sym (c.in_ok-rest.ensures.worth seen.top)
    ∙ ap (λ (ts : List Span). with_worths (λ (t : Span). between t.low t.high) max seen.top ts) (sym c.from_vec.ensures))))
