use Rattle.std.proofs.Common.{◌≡◌, suc, ◌-◌, ◌<◌, length, map, Some, ap, sym, ◌∙◌, subst, arith}
use Rattle.std.proofs.Math.ListN.{length-map}
use Rattle.pp_propagation.specs.Turns.{goal_at}
use Rattle.pp_store.specs.Queries.{asked_by, goals_in}
use Rattle.pp_store.proofs.Candidates.{goal_get}
use Rattle.pp_store.proofs.goals.GoalIndex.at.Goals as goal

pub returns-clause-goal : goal.returns-clause-goal
returns-clause-goal c =
    let asked = c.self.inside.asked.items in
    let long : length (goals_in c.args.self.now) ≡ length asked = sym (ap (λ q. length (goals_in q)) c.self.view_is) ∙ sym (ap length c.self.invariant.goals) ∙ length-map asked asked_by in
    let l : c.args.number - 1 < length asked = omega (arith, c.requires.goal.0, c.requires.goal.1, long) in
    let n : c.args.number ≡ suc (c.args.number - 1) = omega (arith, c.requires.goal.0) in
    subst (λ q. goal_at (goals_in q) c.args.number ≡ Some (asked_by c.index.result.now)) c.self.view_is
    (ap (λ gs. goal_at gs c.args.number) (sym c.self.invariant.goals) ∙ ap (goal_at (map asked_by asked)) n ∙ goal_get asked (c.args.number - 1) c.index.result.now l ∙ ap (λ x. Some (asked_by x)) (sym c.index.ensures))
