use Rattle.pp_fixpoint.proofs.Settled.{narrowing_changes_face, runs_end_at_fixpoints}
use Rattle.pp_fixpoint.proofs.laws.run_ends_at_fixpoint.Goals as goal

pub returns-clause-changes : goal.returns-clause-changes
returns-clause-changes c = narrowing_changes_face

pub returns-clause-ends : goal.returns-clause-ends
returns-clause-ends c = runs_end_at_fixpoints
