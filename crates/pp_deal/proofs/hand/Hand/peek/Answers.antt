use Rattle.std.proofs.Common.{rules, ◌≡◌, sym, subst}
use Rattle.crossbeam_deque.specs.Handles.{worker_view}
use Rattle.pp_deal.specs.declared.tally.Tally.{Tally}
use Rattle.pp_deal.specs.Dealt.{AllGone}
use Rattle.pp_deal.specs.Steps.{gives}
use Rattle.pp_deal.proofs.Keeps.{forks}
use Rattle.pp_deal.proofs.hand.Hand.peek.Goals as goal

pub another-pass-requires : goal.another-pass-requires
another-pass-requires g c = forks _ _ c.args.self.now.leads

pub invariant_of-self-clause-gone : goal.invariant_of-self-clause-gone
invariant_of-self-clause-gone g c = λ drained.
    let same : worker_view c.another-pass.new.self ≡ gives (worker_view c.args.self.now.worker) = search rules in
    subst (λ (v : Tally g.row.T.Denot). ∥ AllGone v.offered v.taken ∥₁) (sym same) (c.args.self.now.gone drained)
