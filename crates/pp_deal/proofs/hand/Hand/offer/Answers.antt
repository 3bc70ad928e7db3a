use Rattle.std.proofs.Common.{rules, ◌≡◌, sym, subst}
use Rattle.crossbeam_deque.specs.Handles.{worker_view}
use Rattle.pp_deal.specs.declared.tally.Tally.{Tally}
use Rattle.pp_deal.specs.Dealt.{AllGone}
use Rattle.pp_deal.proofs.Keeps.{offers_keep}
use Rattle.pp_deal.proofs.hand.Hand.offer.Goals as goal

pub push_as-requires-clause-pushes : goal.push_as-requires-clause-pushes
push_as-requires-clause-pushes g c = offers_keep _ _ _ c.args.self.now.leads

pub invariant_of-self-in-Err-1 : goal.invariant_of-self-in-Err-1
invariant_of-self-in-Err-1 g c =
    let same : worker_view c.push_as.new.self ≡ worker_view c.args.self.now.worker = search rules in
    record {
      fifo = search rules;
      leads = search rules;
      gone = λ drained. subst (λ (v : Tally g.row.T.Denot). ∥ AllGone v.offered v.taken ∥₁) (sym same) (c.args.self.now.gone drained);
    }
