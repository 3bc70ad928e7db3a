use Rattle.std.proofs.Common.{◌≡◌, ◌-◌, take, length}
use Rattle.pp_explore.specs.Standing.{StaysOver, back_by}
use Rattle.pp_explore.proofs.walker.Walker.back_to.Given as goal

abbrev pub invariant-loop-self : goal.invariant-loop-self
invariant-loop-self g l = record {
  clauses : g.M.SearchMachine.clauses l.self.machine ≡ g.M.SearchMachine.clauses l.fn.self.machine;
  path : take l.depth l.self.path.items ≡ take l.depth l.fn.self.path.items;
  place : back_by (length l.self.path.items - l.depth) (g.M.SearchMachine.place l.self.machine).above (g.M.SearchMachine.place l.self.machine).here ≡ back_by (length l.fn.self.path.items - l.depth) (g.M.SearchMachine.place l.fn.self.machine).above (g.M.SearchMachine.place l.fn.self.machine).here;
  stands : StaysOver (g.M.SearchMachine.clauses l.fn.self.machine) (g.M.SearchMachine.place l.fn.self.machine) l.fn.self.path.items (g.M.SearchMachine.place l.self.machine) l.self.path.items;
}

abbrev pub decreases-loop-self : goal.decreases-loop-self
decreases-loop-self g l = goal.left-loop-self g l
