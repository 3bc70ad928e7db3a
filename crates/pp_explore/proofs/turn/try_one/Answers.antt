use Rattle.std.proofs.Common.{true}
use Rattle.pp_path.specs.Works.{work_by}
use Rattle.pp_explore.proofs.Standing.{stays_took}
use Rattle.pp_explore.proofs.Turns.{chose_goes, try_ends, try_goes}
use Rattle.pp_explore.proofs.turn.try_one.Goals as goal

pub returns-then-branch-clause-tries : goal.returns-then-branch-clause-tries
returns-then-branch-clause-tries g c = λ from m call f r.
    (chose_goes (g.M.SearchMachine.clauses c.args.walker.now.machine) m call (g.M.SearchMachine.place c.args.walker.now.machine) (g.M.SearchMachine.place c.take.new.self.machine) c.args.walker.now.path.items c.take.new.self.path.items (work_by c.args.work.now) f from c.args.at (rw c.if-branch.true at c.in_ok-take.ensures.took) c.requires.place r, λ task i. i)

pub returns-then-branch-clause-stands : goal.returns-then-branch-clause-stands
returns-then-branch-clause-stands g c =
    stays_took (g.M.SearchMachine.clauses c.args.walker.now.machine) (g.M.SearchMachine.place c.args.walker.now.machine) c.args.walker.now.path.items (g.M.SearchMachine.place c.args.walker.now.machine) (g.M.SearchMachine.place c.take.new.self.machine) c.args.walker.now.path.items c.take.new.self.path.items c.args.at true (λ root s. s) (rw c.if-branch.true at c.in_ok-take.ensures.took)

pub returns-then-leave-clause-tries : goal.returns-then-leave-clause-tries
returns-then-leave-clause-tries g c = λ from m call f r.
    let goes = try_goes (g.M.SearchMachine.clauses c.args.walker.now.machine) m call (g.M.SearchMachine.place c.args.walker.now.machine) (g.M.SearchMachine.place c.take.new.self.machine) (g.M.SearchMachine.place c.leave.new.walker.machine) c.args.walker.now.path.items c.take.new.self.path.items c.leave.new.walker.path.items (work_by c.args.work.now) (work_by c.leave.new.work) f from c.args.at (rw c.if-branch.false at c.in_ok-take.ensures.took) c.requires.place r
    (rw c.in_ok-take.ensures.clauses at c.leave.ensures.stands) c.if-leave.ensures.left in
    (goes, goes.later)

pub returns-clause-tries : goal.returns-clause-tries
returns-clause-tries g c = λ from m call f r.
    try_ends (g.M.SearchMachine.clauses c.args.walker.now.machine) m call (g.M.SearchMachine.place c.args.walker.now.machine) (g.M.SearchMachine.place c.take.new.self.machine) (g.M.SearchMachine.place c.leave.new.walker.machine) c.args.walker.now.path.items c.take.new.self.path.items c.leave.new.walker.path.items (work_by c.args.work.now) (work_by c.leave.new.work) f from c.args.at (rw c.if-branch.false at c.in_ok-take.ensures.took) c.requires.place r c.if-leave.ensures.left
