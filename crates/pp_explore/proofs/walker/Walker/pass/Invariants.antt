use Rattle.std.proofs.Common.{◌≡◌, length}
use Rattle.pp_sld.specs.Trace.{trace}
use Rattle.pp_sld.proofs.Trees.{tree}
use Rattle.pp_explore.specs.Standing.{StaysOver}
use Rattle.pp_explore.proofs.walker.Walker.pass.Given as goal

abbrev pub invariant-loop-count : goal.invariant-loop-count
invariant-loop-count g l = record {
  clauses : g.M.SearchMachine.clauses l.self.machine ≡ g.M.SearchMachine.clauses l.fn.self.machine;
  path : l.self.path.items ≡ l.fn.self.path.items;
  stands : StaysOver (g.M.SearchMachine.clauses l.fn.self.machine) (g.M.SearchMachine.place l.fn.self.machine) l.fn.self.path.items (g.M.SearchMachine.place l.self.machine) l.fn.self.path.items;
}

abbrev pub decreases-loop-count : goal.decreases-loop-count
decreases-loop-count g l = length (trace (tree (g.M.SearchMachine.clauses l.fn.self.machine) (g.M.SearchMachine.place l.self.machine).here))
