use Rattle.std.proofs.Common.{rules}
use Rattle.pp_core.proofs.Finds.{found}
use Rattle.pp_core.proofs.state.Core.find.Goals as goal

pub returns-then-same-clause-first : goal.returns-then-same-clause-first
returns-then-same-clause-first g c = let f = found g.S.Space.are_same c.args.task.now c.index.result.now c.args.self.now.live.items c.loop-i.i (search rules) (search rules) (search rules) c.loop-i.invariant.0 c.loop-i.invariant.1 in f.1
