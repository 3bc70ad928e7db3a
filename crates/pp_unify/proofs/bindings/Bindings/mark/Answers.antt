use Rattle.std.proofs.Common.{suc, ap, rules}
use Rattle.pp_unify.proofs.Kept.{length-states_of}
use Rattle.pp_unify.proofs.Verdicts.{row_present}
use Rattle.pp_unify.proofs.bindings.Bindings.mark.Goals as goal

pub returns-clause-place : goal.returns-clause-place
returns-clause-place c = rw (← c.self.view_is, length-states_of c.self.inside.state) (ap suc (search rules))

pub returns-clause-row : goal.returns-clause-row
returns-clause-row c = row_present c.self.inside.state c.args.self.now c.self.invariant c.self.view_is
