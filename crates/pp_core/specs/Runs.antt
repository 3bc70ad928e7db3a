-- What reports do to the live tasks and to the value.
use Rattle.std.specs.Prelude.{Bool, true, false, cond, ◌||◌, List, [], ◌∷◌, ◌++◌}
use Rattle.pp_core.specs.declared.report.ReportOf.{ReportOf}
use Rattle.pp_core.specs.declared.accepted.Accepted.{Accepted}
use Rattle.pp_core.specs.declared.accepted.Accepted.TheVariants.{Taken, Settled, Stale}

module _ {T : Type 0} (same : T → T → Bool) where
  -- some live task is the same
  abbrev pub is_live : T → List T → Bool
  is_live t [] = false
  is_live t (u ∷ us) = same t u || is_live t us

  -- all but the first that is the same
  abbrev pub without : T → List T → List T
  without t [] = []
  without t (u ∷ us) = cond (same t u) us (u ∷ without t us)

-- the tasks whose worth isn't in the value yet, and the value
pub record State (T V : Type 0) : Type 0 where
  pub live : List T
  pub value : V

abbrev pub state : {T V : Type 0} → List T → V → State T V
state live value = record { live = live; value = value }

-- the root alone is live
abbrev pub opening : {T V : Type 0} → V → T → State T V
opening bottom root = record { live = root ∷ []; value = bottom }

module _ {T V : Type 0} (same : T → T → Bool) (joined : V → V → V) where
  -- the task gives way to its rest, and what was found is joined to the value; a report of a task that isn't live changes nothing
  abbrev pub after : ReportOf T V → State T V → State T V
  after r st = cond (is_live same r.task st.live) (record { live = without same r.task st.live ++ r.rest; value = joined st.value r.found }) st

  -- the state after these reports, one after another
  abbrev pub after_all : List (ReportOf T V) → State T V → State T V
  after_all [] st = st
  after_all (r ∷ rs) st = after_all rs (after r st)

-- no task is live, or the value is settled
abbrev pub is_done_by : {T V : Type 0} → (V → Bool) → List T → V → Bool
is_done_by settled [] v = true
is_done_by settled (t ∷ ts) v = settled v

abbrev pub is_done : {T V : Type 0} → (V → Bool) → State T V → Bool
is_done settled st = is_done_by settled st.live st.value

-- what a report is answered, by whether its task was live and whether the state is done then
abbrev pub answer_if : Bool → Bool → Accepted
answer_if false done = Stale
answer_if true true = Settled
answer_if true false = Taken
