-- A journal of what was done to a core, and its replay.
use Rattle.std.specs.Prelude.{◌≡◌, Bool, false, List, [], ◌∷◌}
use Rattle.pp_core.specs.declared.entry.Act.{Act}
use Rattle.pp_core.specs.declared.entry.Act.TheVariants.{Reported, Stale, Looked}
use Rattle.pp_core.specs.declared.entry.EntryOf.{EntryOf}
use Rattle.pp_core.specs.Runs.{State, is_live, after}
use Rattle.pp_core.specs.Worths.{IsFit}

module _ {T V : Type 0} (same : T → T → Bool) (joined : V → V → V) where
  -- a report that was accepted does what it does; a stale one and a look change nothing
  abbrev pub does : Act T V → State T V → State T V
  does (Reported r) st = after same joined r st
  does (Stale t) st = st
  does Looked st = st

  abbrev pub replay : List (EntryOf T V) → State T V → State T V
  replay [] st = st
  replay (e ∷ es) st = replay es (does e.act st)

  module _ (worth : T → V) (fits : V → Type 0) where
    -- a report was fit, what it was made under is below the value then, and its task was live; a stale one's wasn't
    abbrev pub IsSound : Act T V → State T V → Type 0
    IsSound (Reported r) st = IsFit worth joined fits r × (joined r.under st.value ≡ st.value)
    IsSound (Stale t) st = is_live same t st.live ≡ false
    IsSound Looked st = Unit {0}

    abbrev pub AreSound : List (EntryOf T V) → State T V → Type 0
    AreSound [] st = Unit {0}
    AreSound (e ∷ es) st = IsSound e.act st × AreSound es (does e.act st)
