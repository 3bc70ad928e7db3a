use Rattle.std.proofs.Common.{◌≡◌, [], All, length, sym, ◌∙◌, subst}
use Rattle.pp_propagation.specs.Turns.{woken}
use Rattle.pp_wake.specs.Waiting.{IsGoalOf}
use Rattle.pp_store.specs.Queries.{goals_in}
use Rattle.pp_fix.proofs.Waking.{woken_are_goals}
use Rattle.pp_fix.proofs.commit.narrow.Goals as goal

pub wake_all-requires : goal.wake_all-requires
wake_all-requires c =
    let gs = goals_in c.args.goals.now in
    let e : c.as_slice.result.now ≡ woken c.args.store.now.row c.apply.new.self.row [] 1 gs = c.as_slice.ensures ∙ c.in_ok-changed.ensures.changed in
    record { goals = subst (λ n. All (IsGoalOf n) c.as_slice.result.now) (sym c.requires.goals) (subst (λ ks. All (IsGoalOf (length gs)) ks) (sym e) (woken_are_goals c.args.store.now.row c.apply.new.self.row gs)) }
