use Rattle.std.proofs.Common.{◌≡◌, ◌++◌, take}
use Rattle.pp_explore.specs.Standing.{StaysOver, nows}
use Rattle.pp_explore.proofs.walker.Walker.descend_all.Given as goal

abbrev pub invariant-loop-level : goal.invariant-loop-level
invariant-loop-level g l = record {
  clauses : g.M.SearchMachine.clauses l.self.machine ≡ g.M.SearchMachine.clauses l.fn.self.machine;
  path : l.self.path.items ≡ l.fn.self.path.items ++ nows (take l.level-index l.levels);
  stands : StaysOver (g.M.SearchMachine.clauses l.fn.self.machine) (g.M.SearchMachine.place l.fn.self.machine) l.fn.self.path.items (g.M.SearchMachine.place l.self.machine) l.self.path.items;
}
