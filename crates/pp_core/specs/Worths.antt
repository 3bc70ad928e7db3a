-- The worth of many tasks, and which reports are fit.
use Rattle.std.specs.Prelude.{◌≡◌, Bool, List, [], ◌∷◌}
use Rattle.pp_core.specs.declared.report.ReportOf.{ReportOf}
use Rattle.pp_core.specs.Runs.{State, after}

module _ {T V : Type 0} (worth : T → V) (joined : V → V → V) where
  -- a value joined with the worths of the tasks
  abbrev pub with_worths : V → List T → V
  with_worths v [] = v
  with_worths v (t ∷ ts) = with_worths (joined v (worth t)) ts

  -- the task is worth what was found and its rest, under what was known
  pub record IsFit (fits : V → Type 0) (r : ReportOf T V) : Type 0 where
    pub found : ∥ fits r.found ∥₁
    pub under : ∥ fits r.under ∥₁
    pub same : joined (worth r.task) r.under ≡ joined (with_worths r.found r.rest) r.under

  -- each report is fit, and what it was made under is below the value then
  abbrev pub AreFit : (V → Type 0) → (T → T → Bool) → List (ReportOf T V) → State T V → Type 0
  AreFit fits same [] st = Unit {0}
  AreFit fits same (r ∷ rs) st = IsFit fits r × (joined r.under st.value ≡ st.value) × AreFit fits same rs (after same joined r st)
