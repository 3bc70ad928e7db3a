use Rattle.pp_explore.proofs.Standing.{missed_ended}
use Rattle.pp_explore.proofs.walker.Walker.pass_again.Goals as goal

pub returns-clause-missed : goal.returns-clause-missed
returns-clause-missed g c = λ e k js.
    missed_ended (g.M.SearchMachine.clauses c.args.self.now.machine) (g.M.SearchMachine.place c.args.self.now.machine) c.args.self.now.path.items (g.M.SearchMachine.place c.pass.new.self.machine) k
    c.pass.ensures.stands (rw c.in-None.is at c.in_ok-pass.ensures.comes) js
