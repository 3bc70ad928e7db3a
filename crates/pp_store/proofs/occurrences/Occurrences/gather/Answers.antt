use Rattle.std.proofs.Common.{get_or, arith}
use Rattle.pp_store.proofs.Lists.{in_get}
use Rattle.pp_store.proofs.Noting.{gathered_next}
use Rattle.pp_store.proofs.occurrences.Occurrences.gather.Goals as goal

pub take_in-requires : goal.take_in-requires
take_in-requires c = record { within = c.requires.within (get_or c.args.variables.now c.loop-variable.variable-index 0) (in_get c.args.variables.now c.loop-variable.variable-index 0 (omega (arith, c.loop-variable-test.true))) }

pub loop-variable-preserved : goal.loop-variable-preserved
loop-variable-preserved c = gathered_next c.args.self.now c.args.variables.now c.loop-variable.numbers.keys c.take_in.new.numbers.keys c.loop-variable.variable-index (omega (arith, c.loop-variable-test.true)) c.loop-variable.invariant c.in_ok-take_in.ensures
