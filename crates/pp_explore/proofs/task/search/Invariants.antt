use Rattle.std.proofs.Common.{◌≡◌, ◌+◌, ◌≤◌, false, [], ◌∷◌}
use Rattle.pp_sld.specs.Works.{Work}
use Rattle.pp_path.specs.Works.{work_by}
use Rattle.pp_stop.specs.Seats.{IsSeatOf, has_seen, late, loads}
use Rattle.pp_explore.specs.Standing.{StaysOver}
use Rattle.pp_explore.specs.Searching.{state, IsOn, IsReady, HasSearched, distance}
use Rattle.pp_explore.proofs.task.search.Given as goal

abbrev pub invariant-loop-stage : goal.invariant-loop-stage
invariant-loop-stage g l = record {
  clauses : g.M.SearchMachine.clauses l.walker.machine ≡ g.M.SearchMachine.clauses l.fn.walker.machine;
  mode : g.G.Gatherer.mode l.gathered ≡ g.G.Gatherer.mode l.fn.gathered;
  call : g.G.Gatherer.call l.gathered ≡ g.G.Gatherer.call l.fn.gathered;
  seat : IsSeatOf l.stop l.seat;
  fresh : has_seen l.seat ≡ false;
  late : late l.seat ≡ late l.fn.seat;
  loads : loads l.fn.seat + l.steps ≤ loads l.seat + l.fn.steps;
  paid : l.fn.steps + l.budget ≤ l.steps + l.left;
  stands : StaysOver (g.M.SearchMachine.clauses l.fn.walker.machine) (g.M.SearchMachine.place l.fn.walker.machine) l.fn.walker.path.items (g.M.SearchMachine.place l.walker.machine) l.walker.path.items;
  ready : IsReady (g.M.SearchMachine.clauses l.fn.walker.machine) (g.G.Gatherer.call l.fn.gathered) (state l.stage (g.M.SearchMachine.place l.walker.machine) l.walker.path.items (work_by l.work) (g.G.Gatherer.finding l.gathered));
  searched : HasSearched (g.M.SearchMachine.clauses l.fn.walker.machine) (g.G.Gatherer.mode l.fn.gathered) (state l.fn.stage (g.M.SearchMachine.place l.fn.walker.machine) l.fn.walker.path.items (work_by l.fn.work) (g.G.Gatherer.finding l.fn.gathered)) (work_by l.work ∷ []) (g.G.Gatherer.finding l.gathered);
  later : (task : Work) → IsOn l.fn.stage task (work_by l.fn.work) → IsOn l.stage task (work_by l.work);
}

abbrev pub decreases-loop-stage : goal.decreases-loop-stage
decreases-loop-stage g l = distance (g.M.SearchMachine.clauses l.fn.walker.machine) l.stage (g.M.SearchMachine.place l.walker.machine) (work_by l.work)
