use Rattle.std.proofs.Common.{◌∷◌, [], sym, arith, subst, refl}
use Rattle.pp_term.specs.WellFormed.{AreBelow, IsGoal}
use Rattle.pp_clause.proofs.Counting.{fits_at}
use Rattle.pp_clause.proofs.fresh.fresh_goal.Goals as goal

pub fresh_terms-requires-clause-below : goal.fresh_terms-requires-clause-below
fresh_terms-requires-clause-below c =
    let h = subst (IsGoal c.args.vars) c.in-Call.is c.requires.goal in
    subst (AreBelow c.args.vars) (sym c.as_slice.ensures) h.below

pub shifted-requires : goal.shifted-requires
shifted-requires c = record { fits = fits_at (c.in-Equate.left ∷ c.in-Equate.right ∷ []) 0 c.in-Equate.left c.args.vars c.args.from (omega arith) refl (subst (IsGoal c.args.vars) c.in-Equate.is c.requires.goal) c.requires.fits }

pub shifted-requires-in-Equate : goal.shifted-requires-in-Equate
shifted-requires-in-Equate c = record { fits = fits_at (c.in-Equate.left ∷ c.in-Equate.right ∷ []) 1 c.in-Equate.right c.args.vars c.args.from (omega arith) refl (subst (IsGoal c.args.vars) c.in-Equate.is c.requires.goal) c.requires.fits }

pub shifted-requires-in-Member : goal.shifted-requires-in-Member
shifted-requires-in-Member c = record { fits = fits_at (c.in-Member.term ∷ []) 0 c.in-Member.term c.args.vars c.args.from (omega arith) refl (subst (IsGoal c.args.vars) c.in-Member.is c.requires.goal) c.requires.fits }

pub shifted-requires-in-Compare : goal.shifted-requires-in-Compare
shifted-requires-in-Compare c = record { fits = fits_at (c.in-Compare.left ∷ c.in-Compare.right ∷ []) 0 c.in-Compare.left c.args.vars c.args.from (omega arith) refl (subst (IsGoal c.args.vars) c.in-Compare.is c.requires.goal) c.requires.fits }

pub shifted-requires-in-Compare-2 : goal.shifted-requires-in-Compare-2
shifted-requires-in-Compare-2 c = record { fits = fits_at (c.in-Compare.left ∷ c.in-Compare.right ∷ []) 1 c.in-Compare.right c.args.vars c.args.from (omega arith) refl (subst (IsGoal c.args.vars) c.in-Compare.is c.requires.goal) c.requires.fits }
