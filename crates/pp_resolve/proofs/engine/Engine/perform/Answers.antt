use Rattle.std.proofs.Common.{subst, inr}
use Rattle.pp_resolve.specs.Events.{selected_as, Solved}
use Rattle.pp_resolve.proofs.Stepping.{solved_cost, solved_step, failed_step}
use Rattle.pp_resolve.proofs.engine.Engine.perform.Goals as goal

pub solve_at-requires-clause-ready : goal.solve_at-requires-clause-ready
solve_at-requires-clause-ready c = λ l g b is. (c.requires.met.looks l b g is).1

pub returns-in_err-solve_at-clause-cost : goal.returns-in_err-solve_at-clause-cost
returns-in_err-solve_at-clause-cost c = solved_cost c.args.self.now c.requires.good (selected_as c.args.at c.args.act) c.requires.met c.requires.solving

pub returns-then-branch-clause-cost : goal.returns-then-branch-clause-cost
returns-then-branch-clause-cost c = solved_cost c.args.self.now c.requires.good (selected_as c.args.at c.args.act) c.requires.met c.requires.solving

pub returns-else-branch-clause-cost : goal.returns-else-branch-clause-cost
returns-else-branch-clause-cost c = solved_cost c.args.self.now c.requires.good (selected_as c.args.at c.args.act) c.requires.met c.requires.solving

pub returns-then-branch-clause-stepped : goal.returns-then-branch-clause-stepped
returns-then-branch-clause-stepped c =
    let e = c.args.self.now in
    let n = c.solve_at.new.self in
    let s = subst (λ b. Solved e c.args.at c.args.act b n) c.if-branch.true c.in_ok-solve_at.ensures.solved in
    let k = solved_step e c.requires.good (selected_as c.args.at c.args.act) c.requires.met c.requires.solving n s in
    (k.0, k.1, k.2, c.solve_at.ensures.above)

pub returns-else-branch-clause-stepped : goal.returns-else-branch-clause-stepped
returns-else-branch-clause-stepped c =
    let e = c.args.self.now in
    let n = c.solve_at.new.self in
    let s = subst (λ b. Solved e c.args.at c.args.act b n) c.if-branch.false c.in_ok-solve_at.ensures.solved in
    let k = failed_step e c.requires.good (selected_as c.args.at c.args.act) c.requires.met c.requires.solving n s in
    (inr (inr k), s.1)
