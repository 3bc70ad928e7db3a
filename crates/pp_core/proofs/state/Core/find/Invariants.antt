use Rattle.std.proofs.Common.{◌≡◌, ◌++◌, take, drop}
use Rattle.pp_core.specs.Runs.{is_live, without}
use Rattle.pp_core.proofs.state.Core.find.Given as goal

abbrev pub invariant-loop-i : goal.invariant-loop-i
invariant-loop-i g l = (is_live g.S.Space.are_same l.task l.self.live.items ≡ is_live g.S.Space.are_same l.task (drop l.i l.self.live.items)) × (without g.S.Space.are_same l.task l.self.live.items ≡ take l.i l.self.live.items ++ without g.S.Space.are_same l.task (drop l.i l.self.live.items))
