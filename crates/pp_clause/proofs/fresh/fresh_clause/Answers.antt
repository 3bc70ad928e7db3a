use Rattle.std.proofs.Common.{subst, sym}
use Rattle.pp_term.specs.WellFormed.{AreBelow}
use Rattle.pp_clause.proofs.fresh.fresh_clause.Goals as goal

pub fresh_terms-requires-clause-below : goal.fresh_terms-requires-clause-below
fresh_terms-requires-clause-below c = subst (AreBelow c.args.clause.now.vars) (sym c.as_slice.ensures) c.requires.clause.head.below
