use Rattle.std.proofs.Common.{◌≡◌, ◌⊎◌, [], ◌∷◌}
use Rattle.pp_sld.specs.Works.{IsLater}
use Rattle.pp_path.specs.Works.{work_by}
use Rattle.pp_explore.specs.Standing.{StaysOver}
use Rattle.pp_explore.specs.Searching.{Keeps, PathIs, levels_left}
use Rattle.pp_explore.proofs.arrive.arrive.Given as goal

abbrev pub invariant-loop-walker : goal.invariant-loop-walker
invariant-loop-walker g l = record {
  clauses : g.M.SearchMachine.clauses l.walker.machine ≡ g.M.SearchMachine.clauses l.fn.walker.machine;
  stands : StaysOver (g.M.SearchMachine.clauses l.fn.walker.machine) (g.M.SearchMachine.place l.fn.walker.machine) l.fn.walker.path.items (g.M.SearchMachine.place l.walker.machine) l.walker.path.items;
  kept : Keeps (g.M.SearchMachine.clauses l.fn.walker.machine) (g.M.SearchMachine.place l.fn.walker.machine) l.fn.walker.path.items (work_by l.fn.work) [] (work_by l.work ∷ []);
  missed : PathIs (g.M.SearchMachine.clauses l.fn.walker.machine) (g.M.SearchMachine.place l.fn.walker.machine) l.fn.walker.path.items (work_by l.work) [];
  later : (work_by l.work ≡ work_by l.fn.work) ⊎ IsLater (work_by l.work) (work_by l.fn.work);
}

abbrev pub decreases-loop-walker : goal.decreases-loop-walker
decreases-loop-walker g l = levels_left (work_by l.work)
