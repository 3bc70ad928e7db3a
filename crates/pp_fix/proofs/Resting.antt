-- What is promised of a run's end.
use Rattle.std.proofs.Common.{◌≡◌, ℕ, List, sym, ap, ◌∙◌, subst}
use Rattle.std.specs.Prelude.{Result, Ok, Err, IfOk}
use Rattle.pp_algebra.specs.Rows.{Row}
use Rattle.pp_sld.specs.Goals.{Program}
use Rattle.pp_propagation.specs.Stores.{Asked}
use Rattle.pp_propagation.specs.Watchers.{Watcher}
use Rattle.pp_fixpoint.specs.Fixpoints.{IsFixpoint, AreEnoughTurns}
use Rattle.pp_fixpoint.proofs.Settled.{ends_at_fixpoint}
use Rattle.pp_fixpoint.proofs.Enough.{enough}
use Rattle.pp_fix.specs.declared.fix.End.TheVariants.{Yes, Stopped}
use Rattle.pp_fix.specs.declared.fix.Fixed.{Fixed}
use Rattle.pp_fix.specs.Fixing.{end_by, IsFixed}

module _ (clauses : Program) (goals : List Asked) (depth turns : ℕ) (begun last : Row) (old new : List Watcher) where
  abbrev Fixes : Fixed → Type 0
  Fixes f = IsFixed clauses goals depth turns begun last old new f

  at_fixpoint : (f : Fixed) → Fixes f → f.end ≡ Yes → IsFixpoint clauses goals depth last f.unfinished
  at_fixpoint f h e =
      subst (λ r. IsFixpoint clauses goals depth r f.unfinished) h.has_store
      (subst (λ ks. IsFixpoint clauses goals depth h.run.store ks) (sym h.unfinished) (ends_at_fixpoint clauses goals depth turns begun h.run h.is_run (h.ends ∙ ap end_by e)))

  not_stopped : (f : Fixed) → Fixes f → AreEnoughTurns goals begun turns → f.end ≡ Stopped → ⊥
  not_stopped f h m e = enough clauses goals depth turns begun h.run h.is_run m (h.ends ∙ ap end_by e)

  pub ends_at_rest : {E : Type 0} (r : Result Fixed E) → IfOk r Fixes → IfOk r (λ f. f.end ≡ Yes → IsFixpoint clauses goals depth last f.unfinished)
  ends_at_rest (Ok f) h = at_fixpoint f h
  ends_at_rest (Err e) h = tt

  pub ends_in_time : {E : Type 0} (r : Result Fixed E) → IfOk r Fixes → IfOk r (λ f. AreEnoughTurns goals begun turns → f.end ≡ Stopped → ⊥)
  ends_in_time (Ok f) h = not_stopped f h
  ends_in_time (Err e) h = tt
