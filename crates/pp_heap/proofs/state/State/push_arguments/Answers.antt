use Rattle.std.proofs.Common.{◌∙◌, ap}
use Rattle.pp_algebra.specs.Terms.{join}
use Rattle.pp_heap.specs.Spans.{terms_of}
use Rattle.pp_heap.proofs.Work.{terms_of-push, argument_terms, argument_span, all_push}
use Rattle.pp_heap.proofs.state.State.push_arguments.Goals as goal

pub returns-clause-all : goal.returns-clause-all
returns-clause-all c =
    rw c.in_ok-push.ensures.items (all_push c.args.self.now.heap.items c.args.work.now.items _ c.requires.all (argument_span c.args.self.now.heap.items c.args.place c.arity_at-count.result c.requires.good.linked.forest c.requires.within c.requires.compound c.arity_at-count.ensures))

pub returns-clause-terms : goal.returns-clause-terms
returns-clause-terms c =
    rw c.in_ok-push.ensures.items (terms_of-push c.args.self.now.heap.items c.args.work.now.items _ ∙ ap (λ z. join z (terms_of c.args.self.now.heap.items c.args.work.now.items)) (argument_terms c.args.self.now.heap.items c.args.place c.arity_at-count.result c.requires.good.linked.forest c.requires.within c.arity_at-count.ensures))
