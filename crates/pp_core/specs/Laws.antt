-- The laws of core runs and of journals, as statements over a lattice and its tasks.
use Rattle.std.specs.Prelude.{◌≡◌, Bool, true, List}
use Rattle.pp_core.specs.declared.report.ReportOf.{ReportOf}
use Rattle.pp_core.specs.declared.entry.EntryOf.{EntryOf}
use Rattle.pp_core.specs.Runs.{State, opening, after_all, is_done}
use Rattle.pp_core.specs.Worths.{with_worths, AreFit}
use Rattle.pp_core.specs.Journals.{replay, AreSound}

module _ {T V : Type 0} (worth : T → V) (joined : V → V → V) where
  -- the value joined with the worths of all live tasks is the worth of the root
  abbrev pub IsWhole : T → State T V → Type 0
  IsWhole root st = with_worths worth joined st.value st.live ≡ worth root

  module _ (same : T → T → Bool) (fits : V → Type 0) (bottom : V) where
    -- after every list of fit reports
    abbrev pub RunsAreWhole : Type 0
    RunsAreWhole = (root : T) (reports : List (ReportOf T V)) → AreFit worth joined fits same reports (opening bottom root) → IsWhole root (after_all same joined reports (opening bottom root))

    -- after every sound journal
    abbrev pub JournalsAreWhole : Type 0
    JournalsAreWhole = (root : T) (journal : List (EntryOf T V)) → AreSound same joined worth fits journal (opening bottom root) → IsWhole root (replay same joined journal (opening bottom root))

    -- once no task is live or the value is settled, the value has the outcome of the root's worth
    abbrev pub RunsDecide : {O : Type 0} → (V → Bool) → (V → O) → Type 0
    RunsDecide settled outcome = (root : T) (reports : List (ReportOf T V)) → AreFit worth joined fits same reports (opening bottom root)
        → is_done settled (after_all same joined reports (opening bottom root)) ≡ true → outcome (after_all same joined reports (opening bottom root)).value ≡ outcome (worth root)
