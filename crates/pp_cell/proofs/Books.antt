-- A journal that tells a state: with one entry more, and of what is equal.
use Rattle.std.proofs.Common.{◌≡◌, Bool, true, cond, List, [], ◌∷◌, ◌++◌, sym, ap, ◌∙◌, subst}
use Rattle.std.proofs.Math.Logic.{∥∥₁_map}
use Rattle.pp_core.specs.Runs.{State, state, opening, after, is_live, without}
use Rattle.pp_core.specs.Journals.{does, replay, IsSound, AreSound}
use Rattle.pp_core.specs.declared.report.ReportOf.{ReportOf}
use Rattle.pp_core.specs.declared.entry.EntryOf.{EntryOf}
use Rattle.pp_cell.specs.Entries.{WasAccepted, WereAccepted}
use Rattle.pp_cell.proofs.Replays.{replay_append, sound_append, accepted_append}

-- a report of a live task
pub accepted : {T V : Type 0} (same : T → T → Bool) (joined : V → V → V) (r : ReportOf T V) (live : List T) (value : V) → is_live same r.task live ≡ true
    → after same joined r (state live value) ≡ state (without same r.task live ++ r.rest) (joined value r.found)
accepted same joined r live value is = ap (λ (b : Bool). cond b (state (without same r.task live ++ r.rest) (joined value r.found)) (state live value)) is

module _ {X T V : Type 0} (same : T → T → Bool) (joined : X → V → V → V) (worth : X → T → V) (bottom : X → V) (fits : X → V → Type 0) where
  -- the journal replayed gives these tasks and this value
  abbrev pub Tells : X → T → List T → V → List (EntryOf T V) → Type 0
  Tells x root live value es =
      ((replay same (joined x) es (opening (bottom x) root)).live ≡ live)
      × ((replay same (joined x) es (opening (bottom x) root)).value ≡ value)
      × ∥ AreSound same (joined x) (worth x) (fits x) es (opening (bottom x) root) ∥₁
      × ∥ WereAccepted same (joined x) es (opening (bottom x) root) ∥₁

  -- one entry more
  pub tells_more : (x : X) (root : T) (live : List T) (value : V) (es : List (EntryOf T V)) (e : EntryOf T V)
      → Tells x root live value es → IsSound same (joined x) (worth x) (fits x) e.act (state live value) → WasAccepted same (joined x) e.act (state live value)
      → (live' : List T) (value' : V) → does same (joined x) e.act (state live value) ≡ state live' value'
      → Tells x root live' value' (es ++ e ∷ [])
  tells_more x root live value es e t sound taken live' value' step =
      let begun : State T V = opening (bottom x) root in
      let st : State T V = replay same (joined x) es begun in
      let is : st ≡ state live value = (λ i. record { live = t.0 i; value = t.1 i }) in
      let next : replay same (joined x) (es ++ e ∷ []) begun ≡ state live' value' = replay_append same (joined x) es (e ∷ []) begun ∙ (ap (λ (z : State T V). does same (joined x) e.act z) is ∙ step) in
      let sound_then : IsSound same (joined x) (worth x) (fits x) e.act st = subst (λ (z : State T V). IsSound same (joined x) (worth x) (fits x) e.act z) (sym is) sound in
      let taken_then : WasAccepted same (joined x) e.act st = subst (λ (z : State T V). WasAccepted same (joined x) e.act z) (sym is) taken in (
        ap (λ (z : State T V). z.live) next,
        ap (λ (z : State T V). z.value) next,
        ∥∥₁_map t.2 (λ a. sound_append same (joined x) (worth x) (fits x) es (e ∷ []) begun a (sound_then, tt)),
        ∥∥₁_map t.3 (λ a. accepted_append same (joined x) es (e ∷ []) begun a (taken_then, tt)),
      )

  -- the same of what is equal
  pub tells_same : (x y : X) (root root' : T) (live live' : List T) (value value' : V) (es es' : List (EntryOf T V)) → y ≡ x → root' ≡ root → live' ≡ live → value' ≡ value → es' ≡ es → Tells x root live value es → Tells y root' live' value' es'
  tells_same x y root root' live live' value value' es es' a b c d e t =
      subst (λ (z : X). Tells z root' live' value' es') (sym a) (subst (λ (z : T). Tells x z live' value' es') (sym b) (subst (λ (z : List T). Tells x root z value' es') (sym c) (subst (λ (z : V). Tells x root live z es') (sym d) (subst (λ (z : List (EntryOf T V)). Tells x root live value z) (sym e) t))))
