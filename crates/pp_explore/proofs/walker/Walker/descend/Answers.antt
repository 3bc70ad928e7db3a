use Rattle.pp_explore.proofs.Standing.{stays_tried, missed_tried, missed_no_place, missed_ended}
use Rattle.pp_explore.proofs.walker.Walker.descend.Goals as goal

pub returns-then-at-count-clause-stands : goal.returns-then-at-count-clause-stands
returns-then-at-count-clause-stands g c =
    let cl = g.M.SearchMachine.clauses c.args.self.now.machine in
    let p = g.M.SearchMachine.place c.args.self.now.machine in
    let q = g.M.SearchMachine.place c.pass.new.self.machine in
    let ks = c.args.self.now.path.items in
    stays_tried cl p ks q (g.M.SearchMachine.place c.take.new.self.machine) c.pass.new.self.path.items c.take.new.self.path.items c.args.at c.take.result
    (rw c.pass.ensures.path c.pass.ensures.stands)
    (rw c.pass.ensures.clauses at c.take.ensures.took) c.take.ensures.place c.take.ensures.path

pub returns-then-at-count-clause-missed : goal.returns-then-at-count-clause-missed
returns-then-at-count-clause-missed g c =
    let cl = g.M.SearchMachine.clauses c.args.self.now.machine in
    let p = g.M.SearchMachine.place c.args.self.now.machine in
    let q = g.M.SearchMachine.place c.pass.new.self.machine in
    let ks = c.args.self.now.path.items in
    missed_tried cl p ks q (g.M.SearchMachine.place c.take.new.self.machine) c.pass.new.self.path.items c.take.new.self.path.items c.args.at c.take.result
    c.pass.ensures.path (rw c.pass.ensures.path c.pass.ensures.stands)
    (rw c.pass.ensures.clauses at c.take.ensures.took)

pub returns-else-at-count-clause-missed : goal.returns-else-at-count-clause-missed
returns-else-at-count-clause-missed g c = λ e.
    missed_no_place (g.M.SearchMachine.clauses c.args.self.now.machine) (g.M.SearchMachine.place c.args.self.now.machine) c.args.self.now.path.items (g.M.SearchMachine.place c.pass.new.self.machine) c.in-Some.count c.args.at
    c.pass.ensures.stands (rw c.in-Some.is at c.in_ok-count.ensures.comes) c.if-at-count.false

pub returns-in-None-clause-missed : goal.returns-in-None-clause-missed
returns-in-None-clause-missed g c = λ e.
    missed_ended (g.M.SearchMachine.clauses c.args.self.now.machine) (g.M.SearchMachine.place c.args.self.now.machine) c.args.self.now.path.items (g.M.SearchMachine.place c.pass.new.self.machine) c.args.at
    c.pass.ensures.stands (rw c.in-None.is at c.in_ok-count.ensures.comes)
