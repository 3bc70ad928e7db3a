-- Journals that grow, and the values that they come to.
use Rattle.std.proofs.Common.{◌≡◌, Bool, true, false, cond, List, [], ◌∷◌, ◌++◌, refl, sym, ap, ◌∙◌, subst}
use Rattle.pp_core.specs.Runs.{State, without}
use Rattle.pp_core.specs.Journals.{does, replay, IsSound, AreSound}
use Rattle.pp_core.specs.declared.entry.Act.{Act}
use Rattle.pp_core.specs.declared.entry.Act.TheVariants.{Reported, Stale, Looked}
use Rattle.pp_core.specs.declared.entry.EntryOf.{EntryOf}
use Rattle.pp_core.proofs.Worths.{AreLawful}
use Rattle.pp_core.specs.Runs.{is_live}
use Rattle.pp_cell.specs.Entries.{WereAccepted}

module _ {T V : Type 0} (same : T → T → Bool) (joined : V → V → V) where
  pub replay_append : (es fs : List (EntryOf T V)) (st : State T V) → replay same joined (es ++ fs) st ≡ replay same joined fs (replay same joined es st)
  replay_append [] fs st = refl
  replay_append (e ∷ es) fs st = replay_append es fs (does same joined e.act st)

  pub accepted_append : (es fs : List (EntryOf T V)) (st : State T V) → WereAccepted same joined es st → WereAccepted same joined fs (replay same joined es st) → WereAccepted same joined (es ++ fs) st
  accepted_append [] fs st a b = b
  accepted_append (e ∷ es) fs st a b = (a.0, accepted_append es fs (does same joined e.act st) a.1 b)

  module _ (worth : T → V) (fits : V → Type 0) where
    pub sound_append : (es fs : List (EntryOf T V)) (st : State T V) → AreSound same joined worth fits es st → AreSound same joined worth fits fs (replay same joined es st) → AreSound same joined worth fits (es ++ fs) st
    sound_append [] fs st a b = b
    sound_append (e ∷ es) fs st a b = (a.0, sound_append es fs (does same joined e.act st) a.1 b)

    pub sound_rest : (es fs : List (EntryOf T V)) (st : State T V) → AreSound same joined worth fits (es ++ fs) st → AreSound same joined worth fits fs (replay same joined es st)
    sound_rest [] fs st a = a
    sound_rest (e ∷ es) fs st a = sound_rest es fs (does same joined e.act st) a.1

module _ {T V : Type 0} (F : V → Type 0) (worth : T → V) (joined : V → V → V) (same : T → T → Bool) (laws : AreLawful F worth joined same) where
  one_fits : (a : Act T V) (st : State T V) → ∥ F st.value ∥₁ → IsSound same joined worth F a st → ∥ F (does same joined a st).value ∥₁
  one_fits (Reported r) st f s = by_test (is_live same r.task st.live)
    where
      by_test : (b : Bool) → ∥ F (cond b (record { live = without same r.task st.live ++ r.rest; value = joined st.value r.found }) st).value ∥₁
      by_test true = laws.joined_fits st.value r.found f s.0.found
      by_test false = f
  one_fits (Stale t) st f s = f
  one_fits Looked st f s = f

  one_grows : (a : Act T V) (st : State T V) → ∥ F st.value ∥₁ → IsSound same joined worth F a st → joined st.value (does same joined a st).value ≡ (does same joined a st).value
  one_grows (Reported r) st f s = by_test (is_live same r.task st.live)
    where
      by_test : (b : Bool) → joined st.value (cond b (record { live = without same r.task st.live ++ r.rest; value = joined st.value r.found }) st).value ≡ (cond b (record { live = without same r.task st.live ++ r.rest; value = joined st.value r.found }) st).value
      by_test true = sym (laws.associative st.value st.value r.found f f s.0.found) ∙ ap (λ (v : V). joined v r.found) (laws.idempotent st.value f)
      by_test false = laws.idempotent st.value f
  one_grows (Stale t) st f s = laws.idempotent st.value f
  one_grows Looked st f s = laws.idempotent st.value f

  pub replay_fits : (es : List (EntryOf T V)) (st : State T V) → ∥ F st.value ∥₁ → AreSound same joined worth F es st → ∥ F (replay same joined es st).value ∥₁
  replay_fits [] st f s = f
  replay_fits (e ∷ es) st f s = replay_fits es (does same joined e.act st) (one_fits e.act st f s.0) s.1

  -- what is below a value is below each value above it
  pub below_on : (low mid high : V) → ∥ F low ∥₁ → ∥ F mid ∥₁ → ∥ F high ∥₁ → joined low mid ≡ mid → joined mid high ≡ high → joined low high ≡ high
  below_on low mid high fl fm fh lm mh = ap (λ (v : V). joined low v) (sym mh) ∙ (sym (laws.associative low mid high fl fm fh) ∙ (ap (λ (v : V). joined v high) lm ∙ mh))

  pub replay_grows : (es : List (EntryOf T V)) (st : State T V) → ∥ F st.value ∥₁ → AreSound same joined worth F es st → joined st.value (replay same joined es st).value ≡ (replay same joined es st).value
  replay_grows [] st f s = laws.idempotent st.value f
  replay_grows (e ∷ es) st f s =
      let next : State T V = does same joined e.act st in
      let fn : ∥ F next.value ∥₁ = one_fits e.act st f s.0 in
      below_on st.value next.value (replay same joined es next).value f fn (replay_fits es next fn s.1) (one_grows e.act st f s.0) (replay_grows es next fn s.1)

  -- the value of a journal is above that of its beginning
  pub grows_from : (begun : State T V) (seen es later : List (EntryOf T V)) → es ≡ seen ++ later → ∥ F (replay same joined seen begun).value ∥₁ → AreSound same joined worth F es begun
      → joined (replay same joined seen begun).value (replay same joined es begun).value ≡ (replay same joined es begun).value
  grows_from begun seen es later is f s =
      let mid : State T V = replay same joined seen begun in
      let all : replay same joined later mid ≡ replay same joined es begun = sym (replay_append same joined seen later begun) ∙ ap (λ (l : List (EntryOf T V)). replay same joined l begun) (sym is) in
      let sound : AreSound same joined worth F later mid = sound_rest same joined worth F seen later begun (subst (λ (l : List (EntryOf T V)). AreSound same joined worth F l begun) is s) in
      subst (λ (z : State T V). joined mid.value z.value ≡ z.value) all (replay_grows later mid f sound)
