use Rattle.std.proofs.Common.{refl, arith}
use Rattle.pp_resolve.proofs.Stepping.{at_end, at_stop, end_cost}
use Rattle.pp_resolve.proofs.engine.Engine.finish.Goals as goal

pub returns-then-self-eq0-clause-cost : goal.returns-then-self-eq0-clause-cost
returns-then-self-eq0-clause-cost c = end_cost c.args.self.now c.requires.good c.requires.wait c.requires.none

pub returns-else-self-eq0-clause-cost : goal.returns-else-self-eq0-clause-cost
returns-else-self-eq0-clause-cost c = end_cost c.args.self.now c.requires.good c.requires.wait c.requires.none

pub returns-then-self-eq0-clause-stepped : goal.returns-then-self-eq0-clause-stepped
returns-then-self-eq0-clause-stepped c = (at_end c.args.self.now c.requires.good c.requires.wait c.requires.none c.if-self-eq0.true, refl)

pub returns-else-self-eq0-clause-stepped : goal.returns-else-self-eq0-clause-stepped
returns-else-self-eq0-clause-stepped c = (at_stop c.args.self.now c.requires.good c.requires.wait c.requires.none (omega (arith, c.if-self-eq0.false)), refl)
