use Rattle.std.proofs.Common.{◌∙◌, ap}
use Rattle.pp_algebra.specs.Terms.{join}
use Rattle.pp_heap.specs.Spans.{terms_of}
use Rattle.pp_heap.proofs.Work.{terms_of-push, rest_terms}
use Rattle.pp_heap.proofs.state.State.put_rest.Goals as goal

pub returns-then-span-gt1-clause-terms : goal.returns-then-span-gt1-clause-terms
returns-then-span-gt1-clause-terms c =
    rw c.push_reserved.ensures.items (terms_of-push c.args.self.now.heap.items c.args.work.now.items _ ∙ ap (λ z. join z (terms_of c.args.self.now.heap.items c.args.work.now.items)) (rest_terms c.args.self.now.heap.items c.args.span.at c.args.span.count c.end_at-at.result c.if-span-gt1.true c.end_at-at.ensures.ends))
