-- What entries say, whose they are, and which of them stand for accepted reports.
use Rattle.std.specs.Prelude.{◌≡◌, ℕ, nat_eq, Bool, true, cond, List, [], ◌∷◌}
use Rattle.pp_core.specs.Runs.{State, is_live}
use Rattle.pp_core.specs.Journals.{does}
use Rattle.pp_core.specs.declared.accepted.Accepted.{Accepted}
use Rattle.pp_core.specs.declared.accepted.Accepted.TheVariants as answers
use Rattle.pp_core.specs.declared.report.ReportOf.{ReportOf}
use Rattle.pp_core.specs.declared.entry.Act.{Act}
use Rattle.pp_core.specs.declared.entry.Act.TheVariants.{Reported, Stale, Looked}
use Rattle.pp_core.specs.declared.entry.EntryOf.{EntryOf}

module _ {T V : Type 0} where
  abbrev pub entry : ℕ → Act T V → EntryOf T V
  entry number act = record { seat = number; act = act }

  -- what is written of a report that was answered so
  abbrev pub act_of : Accepted → ReportOf T V → Act T V
  act_of answers.Taken r = Reported r
  act_of answers.Settled r = Reported r
  act_of answers.Stale r = Stale r.task

  -- the entries of one seat, in their order
  abbrev pub entries_of : ℕ → List (EntryOf T V) → List (EntryOf T V)
  entries_of number [] = []
  entries_of number (e ∷ es) = cond (nat_eq e.seat number) (e ∷ entries_of number es) (entries_of number es)

module _ {T V : Type 0} (same : T → T → Bool) (joined : V → V → V) where
  -- what stands as reported was of a live task
  abbrev pub WasAccepted : Act T V → State T V → Type 0
  WasAccepted (Reported r) st = is_live same r.task st.live ≡ true
  WasAccepted (Stale t) st = Unit {0}
  WasAccepted Looked st = Unit {0}

  abbrev pub WereAccepted : List (EntryOf T V) → State T V → Type 0
  WereAccepted [] st = Unit {0}
  WereAccepted (e ∷ es) st = WasAccepted e.act st × WereAccepted es (does same joined e.act st)
