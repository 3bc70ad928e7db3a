use Rattle.std.proofs.Common.{length, arith, ap, ◌∙◌}
use Rattle.pp_sld.proofs.Trees.{went_tree}
use Rattle.pp_explore.proofs.Standing.{stays_went}
use Rattle.pp_explore.proofs.walker.Walker.pass.Goals as goal

pub loop-count-preserved : goal.loop-count-preserved
loop-count-preserved g c =
    let went = rw c.loop-count.invariant.clauses at (rw c.in-Went.is at c.in_ok-step.ensures.stepped) in
    record {
      clauses = c.in_ok-step.ensures.clauses ∙ c.loop-count.invariant.clauses;
      path = c.loop-count.invariant.path;
      stands = stays_went (g.M.SearchMachine.clauses c.args.self.now.machine) (g.M.SearchMachine.place c.args.self.now.machine) c.args.self.now.path.items (g.M.SearchMachine.place c.loop-count.self.machine) (g.M.SearchMachine.place c.step.new.self) c.args.self.now.path.items c.loop-count.invariant.stands went;
    }

pub loop-count-smaller : goal.loop-count-smaller
loop-count-smaller g c =
    let went = rw c.loop-count.invariant.clauses at (rw c.in-Went.is at c.in_ok-step.ensures.stepped) in
    omega (arith, ap length (went_tree (g.M.SearchMachine.clauses c.args.self.now.machine) (g.M.SearchMachine.place c.loop-count.self.machine).here went.0 (g.M.SearchMachine.place c.step.new.self).here went.1 went.2))
