use Rattle.std.proofs.Common.{◌≡◌, reverse}
use Rattle.pp_walk.specs.Walking.{state, IsReady, Walked, distance}
use Rattle.pp_walk.proofs.walk.gather.Given as goal

abbrev pub invariant-loop-levels : goal.invariant-loop-levels
invariant-loop-levels g l = record {
  clauses : g.M.SearchMachine.clauses l.machine ≡ g.M.SearchMachine.clauses l.fn.machine;
  mode : g.G.Gatherer.mode l.gathered ≡ g.G.Gatherer.mode l.fn.gathered;
  call : g.G.Gatherer.call l.gathered ≡ g.G.Gatherer.call l.fn.gathered;
  ready : IsReady (g.M.SearchMachine.clauses l.fn.machine) (g.G.Gatherer.call l.fn.gathered) l.stage (g.M.SearchMachine.place l.machine) (reverse l.levels.items);
  walked : Walked (g.M.SearchMachine.clauses l.fn.machine) (g.G.Gatherer.mode l.fn.gathered) (g.G.Gatherer.call l.fn.gathered) (g.M.SearchMachine.place l.fn.machine).here l.fn.steps (state l.stage (g.M.SearchMachine.place l.machine) (reverse l.levels.items) (g.G.Gatherer.finding l.gathered) l.steps);
}

abbrev pub decreases-loop-levels : goal.decreases-loop-levels
decreases-loop-levels g l = distance (g.M.SearchMachine.clauses l.machine) l.stage (g.M.SearchMachine.place l.machine) (reverse l.levels.items)
