use Rattle.std.proofs.Common.{map, sym, subst}
use Rattle.pp_path.specs.Works.{work_by}
use Rattle.pp_explore.specs.Exploring.{HasGathered}
use Rattle.pp_explore.proofs.Standing.{map_ok}
use Rattle.pp_explore.proofs.Arriving.{ready_there, task_searched, task_missed}
use Rattle.pp_explore.proofs.task.explore.Goals as goal

pub search-requires-clause-ready : goal.search-requires-clause-ready
search-requires-clause-ready g c =
    let arrives = rw c.in_ok-work.ensures.same at (rw c.in-Some.is at c.in_ok-stage.ensures.arrives) in
    rw c.in_ok-stage.ensures.clauses
    (ready_there (g.M.SearchMachine.clauses c.args.walker.now.machine) (g.M.SearchMachine.place c.args.walker.now.machine) c.args.walker.now.path.items (g.G.Gatherer.mode c.args.gathered.now) (g.G.Gatherer.call c.args.gathered.now) (work_by c.args.task.now) (work_by c.arrive.new.work) c.in-Some.stage (g.M.SearchMachine.place c.arrive.new.walker.machine) c.arrive.new.walker.path.items (g.G.Gatherer.finding c.args.gathered.now) c.requires.under c.arrive.ensures.stands arrives.1 arrives.0)

pub returns-in-Some-clause-gathered : goal.returns-in-Some-clause-gathered
returns-in-Some-clause-gathered g c =
    let arrives = rw c.in_ok-work.ensures.same at (rw c.in-Some.is at c.in_ok-stage.ensures.arrives) in
    map_ok c.search.result (λ e h. task_searched (g.M.SearchMachine.clauses c.args.walker.now.machine) (g.M.SearchMachine.place c.args.walker.now.machine) c.args.walker.now.path.items (g.G.Gatherer.mode c.args.gathered.now) (g.G.Gatherer.call c.args.gathered.now) (work_by c.args.task.now) (work_by c.arrive.new.work) c.in-Some.stage (g.M.SearchMachine.place c.arrive.new.walker.machine) c.arrive.new.walker.path.items (g.G.Gatherer.finding c.args.gathered.now) (g.G.Gatherer.finding c.search.new.gathered) (map work_by e.rest.items) arrives.1 c.arrive.ensures.stands h)
    (rw c.in_ok-stage.ensures.clauses at c.search.ensures.searched)

pub returns-in-None-clause-gathered : goal.returns-in-None-clause-gathered
returns-in-None-clause-gathered g c =
    subst (λ x. HasGathered (g.M.SearchMachine.clauses c.args.walker.now.machine) (g.G.Gatherer.mode c.args.gathered.now) (g.M.SearchMachine.place c.args.walker.now.machine) c.args.walker.now.path.items (work_by c.args.task.now) (g.G.Gatherer.finding c.args.gathered.now) (map work_by x) (g.G.Gatherer.finding c.args.gathered.now)) (sym c.new-rest.ensures.items)
    (task_missed (g.M.SearchMachine.clauses c.args.walker.now.machine) (g.M.SearchMachine.place c.args.walker.now.machine) c.args.walker.now.path.items (g.G.Gatherer.mode c.args.gathered.now) (g.G.Gatherer.call c.args.gathered.now) (work_by c.args.task.now) (g.G.Gatherer.finding c.args.gathered.now) (rw c.in_ok-work.ensures.same at (rw c.in-None.is at c.in_ok-stage.ensures.arrives)))
