use Rattle.std.proofs.Common.{◌≤◌, ◌+◌, ◌-◌, ◌/◌, List, max, arith, ap, ◌∙◌}
use Rattle.pp_core.specs.Worths.{with_worths}
use Rattle.pp_worker_tests.specs.declared.tests.heights.Span.{Span}
use Rattle.pp_worker_tests.specs.Heights.{between}
use Rattle.pp_worker_tests.proofs.Spans.{halves_joined}
use Rattle.pp_worker_tests.proofs.tests.searching.halves.Goals as goal

pub returns-clause-worth : goal.returns-clause-worth
returns-clause-worth c v =
    let middle = c.args.at + (c.args.high - c.args.at) / 2 in
    let low : c.args.at ≤ middle = omega arith in
    let high : middle ≤ c.args.high = omega (arith, c.if-at-high.false) in
    ap (λ (ts : List Span). with_worths (λ (t : Span). between t.low t.high) max v ts) c.in_ok-vec.ensures.items ∙ halves_joined v c.args.at middle c.args.high low high
