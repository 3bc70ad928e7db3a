use Rattle.std.proofs.Common.{rules, ◌≡◌}
use Rattle.std.proofs.lemmas.List.Elements.{All-pop}
use Rattle.crossbeam_deque.specs.Handles.{worker_view, worker_deque, stealer_deque}
use Rattle.pp_deal.specs.Hands.{stolen}
use Rattle.pp_deal.proofs.Weights.{one_back, all_back}
use Rattle.pp_deal.proofs.Keeps.{merges, learns, accounted}
use Rattle.pp_deal.proofs.hand.Hand.finish.Goals as goal

pub absorb-requires-clause-rule : goal.absorb-requires-clause-rule
absorb-requires-clause-rule g c = merges _ _ _ _ c.loop-peek.invariant.3 c.in-Some.peek.plain c.in-Some.peek.is_out

pub loop-peek-preserved : goal.loop-peek-preserved
loop-peek-preserved g c = let same : worker_deque c.absorb.new.self ≡ worker_deque c.loop-peek.worker = search rules in (
  rw same (All-pop (λ p. stealer_deque p.stealer ≡ worker_deque c.loop-peek.worker) _ _ _ c.pop.ensures.items c.loop-peek.invariant.0).0,
  search rules,
  search rules,
  search rules,
  search rules,
  λ weight. one_back weight stolen c.loop-peek.peeks.items _ c.in-Some.peek (worker_view c.loop-peek.worker).taken _ _ (search rules) (search rules) (c.loop-peek.invariant.5 weight),
)

pub len_as-requires : goal.len_as-requires
len_as-requires g c = learns _ _ c.loop-peek.invariant.3 (search rules)

pub returns : goal.returns
returns g c = accounted (worker_view c.loop-peek.worker) (worker_view c.len_as.new.self) (worker_view c.args.self.worker).offered _ c.len_as.ensures.rule.0 (search rules) c.loop-peek.invariant.4
    (λ weight. all_back weight stolen c.args.peeks.items c.loop-peek.peeks.items (worker_view c.args.self.worker).taken (worker_view c.loop-peek.worker).taken (search rules) (c.loop-peek.invariant.5 weight))
    c.len_as.ensures.rule.2
