use Rattle.std.proofs.Common.{◌≡◌, ◌≤◌, take, length}
use Rattle.pp_explore.specs.Standing.{nows}
use Rattle.pp_explore.proofs.walker.Walker.shared.Given as goal

abbrev pub invariant-loop-i : goal.invariant-loop-i
invariant-loop-i g l = record {
  same : take l.i l.self.path.items ≡ take l.i (nows l.levels);
  within : l.i ≤ length l.self.path.items;
}
