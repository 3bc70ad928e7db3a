use Rattle.std.proofs.Common.{rules, ◌≡◌, inl, sym, subst}
use Rattle.crossbeam_deque.specs.Handles.{worker_view}
use Rattle.pp_deal.specs.declared.tally.Tally.{Tally}
use Rattle.pp_deal.specs.Dealt.{AllGone}
use Rattle.pp_deal.specs.Steps.{HeldNone}
use Rattle.pp_deal.proofs.Keeps.{takes_keep, all_gone}
use Rattle.pp_deal.proofs.hand.Hand.take.Goals as goal

pub pop_as-requires-clause-fifo : goal.pop_as-requires-clause-fifo
pop_as-requires-clause-fifo g c _ = takes_keep _ _ (inl c.args.self.now.leads)

pub invariant_of-self-in-None-clause-gone : goal.invariant_of-self-in-None-clause-gone
invariant_of-self-in-None-clause-gone g c = λ _.
    let same : worker_view c.pop_as.new.self ≡ worker_view c.args.self.now.worker = search rules in
    let none : HeldNone (worker_view c.args.self.now.worker) = search rules in
    subst (λ (v : Tally g.row.T.Denot). ∥ AllGone v.offered v.taken ∥₁) (sym same) ∣ all_gone _ c.args.self.now.leads none ∣₁
