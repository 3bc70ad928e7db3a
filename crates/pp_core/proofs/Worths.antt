-- The value joined with the worths of the live tasks stays the worth of the root.
use Rattle.std.proofs.Common.{◌≡◌, Bool, true, false, cond, ◌||◌, List, [], ◌∷◌, ◌++◌, refl, sym, ap, ◌∙◌}
use Rattle.pp_core.specs.declared.report.ReportOf.{ReportOf}
use Rattle.pp_core.specs.declared.entry.Act.{Act}
use Rattle.pp_core.specs.declared.entry.Act.TheVariants.{Reported, Stale, Looked}
use Rattle.pp_core.specs.declared.entry.EntryOf.{EntryOf}
use Rattle.pp_core.specs.Runs.{State, is_live, without, opening, after, after_all, is_done, is_done_by}
use Rattle.pp_core.specs.Journals.{does, replay, IsSound, AreSound}
use Rattle.pp_core.specs.Worths.{with_worths, IsFit, AreFit}

-- what the calls of a lattice and of its tasks promise
pub record AreLawful {T V : Type 0} (F : V → Type 0) (worth : T → V) (joined : V → V → V) (same : T → T → Bool) : Type 0 where
  pub joined_fits : (a b : V) → ∥ F a ∥₁ → ∥ F b ∥₁ → ∥ F (joined a b) ∥₁
  pub idempotent : (a : V) → ∥ F a ∥₁ → joined a a ≡ a
  pub commutative : (a b : V) → ∥ F a ∥₁ → ∥ F b ∥₁ → joined a b ≡ joined b a
  pub associative : (a b c : V) → ∥ F a ∥₁ → ∥ F b ∥₁ → ∥ F c ∥₁ → joined (joined a b) c ≡ joined a (joined b c)
  pub worth_fits : (t : T) → ∥ F (worth t) ∥₁
  pub same_worth : (t u : T) → same t u ≡ true → worth t ≡ worth u

module _ {T V : Type 0} (F : V → Type 0) (worth : T → V) (joined : V → V → V) (same : T → T → Bool) (laws : AreLawful F worth joined same) where
  abbrev W : V → List T → V
  W = with_worths worth joined

  pub all_fit : (v : V) (ts : List T) → ∥ F v ∥₁ → ∥ F (W v ts) ∥₁
  all_fit v [] f = f
  all_fit v (t ∷ ts) f = all_fit (joined v (worth t)) ts (laws.joined_fits v (worth t) f (laws.worth_fits t))

  -- a value comes out in front
  ahead : (a v : V) (ts : List T) → ∥ F a ∥₁ → ∥ F v ∥₁ → W (joined a v) ts ≡ joined a (W v ts)
  ahead a v [] fa fv = refl
  ahead a v (t ∷ ts) fa fv = ap (λ (z : V). W z ts) (laws.associative a v (worth t) fa fv (laws.worth_fits t)) ∙ ahead a (joined v (worth t)) ts fa (laws.joined_fits v (worth t) fv (laws.worth_fits t))

  behind : (v a : V) (ts : List T) → ∥ F v ∥₁ → ∥ F a ∥₁ → W (joined v a) ts ≡ joined a (W v ts)
  behind v a ts fv fa = ap (λ (z : V). W z ts) (laws.commutative v a fv fa) ∙ ahead a v ts fa fv

  pub absorbs : (v : V) (ts : List T) → ∥ F v ∥₁ → joined v (W v ts) ≡ W v ts
  absorbs v ts f = sym (ahead v v ts f f) ∙ ap (λ (z : V). W z ts) (laws.idempotent v f)

  appended : (v : V) (xs ys : List T) → W v (xs ++ ys) ≡ W (W v xs) ys
  appended v [] ys = refl
  appended v (x ∷ xs) ys = appended (joined v (worth x)) xs ys

  -- the worth of a live task can be told apart
  apart : (t : T) (live : List T) (v : V) → ∥ F v ∥₁ → is_live same t live ≡ true → W v live ≡ joined (worth t) (W v (without same t live))
  apart t [] v f e = absurd (no e)
    where
      no : false ≡ true → ⊥
      no e = (cc)
  apart t (u ∷ us) v f e = by_test (same t u) refl (λ w fw h. apart t us w fw h) e
    where
      by_test : (b : Bool) → same t u ≡ b → ((w : V) → ∥ F w ∥₁ → is_live same t us ≡ true → W w us ≡ joined (worth t) (W w (without same t us))) → b || is_live same t us ≡ true
          → W (joined v (worth u)) us ≡ joined (worth t) (W v (cond b us (u ∷ without same t us)))
      by_test true is rec e = behind v (worth u) us f (laws.worth_fits u) ∙ ap (λ (z : V). joined z (W v us)) (sym (laws.same_worth t u is))
      by_test false is rec e = rec (joined v (worth u)) (laws.joined_fits v (worth u) f (laws.worth_fits u)) e

  pub stays_whole : (t : T) (rest live : List T) (found under v root : V) → ∥ F v ∥₁ → ∥ F found ∥₁ → ∥ F under ∥₁ → is_live same t live ≡ true
      → joined (worth t) under ≡ joined (W found rest) under → joined under v ≡ v → W v live ≡ root
      → W (joined v found) (without same t live ++ rest) ≡ root
  stays_whole t rest live found under v root fv ff fu is fits below whole =
      let us : List T = without same t live in
      let w : V = worth t in
      let fw : ∥ F w ∥₁ = laws.worth_fits t in
      let x : V = W v us in
      let fx : ∥ F x ∥₁ = all_fit v us fv in
      let y : V = W found rest in
      let fy : ∥ F y ∥₁ = all_fit found rest ff in
      let root_is : joined w x ≡ root = sym (apart t live v fv is) ∙ whole in
      let vx : joined v x ≡ x = absorbs v us fv in
      let ux : joined under x ≡ x = ap (λ (z : V). joined under z) (sym vx) ∙ (sym (laws.associative under v x fu fv fx) ∙ (ap (λ (z : V). joined z x) below ∙ vx)) in
      let xu : joined x under ≡ x = laws.commutative x under fx fu ∙ ux in
      let step : W (joined v found) (us ++ rest) ≡ joined x y =
      appended (joined v found) us rest ∙ (ap (λ (z : V). W z rest) (behind v found us fv ff ∙ laws.commutative found x ff fx) ∙ ahead x found rest fx ff) in
      let xy : joined x y ≡ joined x w =
      ap (λ (z : V). joined z y) (sym xu) ∙ (laws.associative x under y fx fu fy ∙ (ap (λ (z : V). joined x z) (laws.commutative under y fu fy ∙ (sym fits ∙ laws.commutative w under fw fu))
      ∙ (sym (laws.associative x under w fx fu fw) ∙ ap (λ (z : V). joined z w) xu))) in
      step ∙ (xy ∙ (laws.commutative x w fx fw ∙ root_is))

  abbrev pub IsAt : V → State T V → Type 0
  IsAt root st = ∥ F st.value ∥₁ × (W st.value st.live ≡ root)

  -- one fit report
  one_report : (r : ReportOf T V) (st : State T V) (root : V) → IsFit worth joined F r → joined r.under st.value ≡ st.value → IsAt root st → IsAt root (after same joined r st)
  one_report r st root fit below at = by_test (is_live same r.task st.live) refl
    where
      by_test : (b : Bool) → is_live same r.task st.live ≡ b → IsAt root (cond b (record { live = without same r.task st.live ++ r.rest; value = joined st.value r.found }) st)
      by_test false is = at
      by_test true is = (laws.joined_fits st.value r.found at.0 fit.found, stays_whole r.task r.rest st.live r.found r.under st.value root at.0 fit.found fit.under is fit.same below at.1)

  -- every list of fit reports
  pub all_reports : (rs : List (ReportOf T V)) (st : State T V) (root : V) → AreFit worth joined F same rs st → IsAt root st → IsAt root (after_all same joined rs st)
  all_reports [] st root fit at = at
  all_reports (r ∷ rs) st root fit at = all_reports rs (after same joined r st) root fit.2 (one_report r st root fit.0 fit.1 at)

  one_act : (a : Act T V) (st : State T V) (root : V) → IsSound same joined worth F a st → IsAt root st → IsAt root (does same joined a st)
  one_act (Reported r) st root sound at = one_report r st root sound.0 sound.1 at
  one_act (Stale t) st root sound at = at
  one_act Looked st root sound at = at

  -- every sound journal
  pub all_entries : (es : List (EntryOf T V)) (st : State T V) (root : V) → AreSound same joined worth F es st → IsAt root st → IsAt root (replay same joined es st)
  all_entries [] st root sound at = at
  all_entries (e ∷ es) st root sound at = all_entries es (does same joined e.act st) root sound.1 (one_act e.act st root sound.0 at)

  -- the root alone is live
  pub opens : (bottom : V) (root : T) → ∥ F bottom ∥₁ → joined bottom (worth root) ≡ worth root → IsAt (worth root) (opening bottom root)
  opens bottom root f unit = (f, unit)

  -- what is done has the outcome of the root
  pub decides : {O : Type 0} (settled : V → Bool) (outcome : V → O) (stays : (a b : V) → ∥ F a ∥₁ → ∥ F b ∥₁ → joined a b ≡ b → settled a ≡ true → (settled b ≡ true) × (outcome a ≡ outcome b))
      → (root : T) (st : State T V) → IsAt (worth root) st → is_done settled st ≡ true → outcome st.value ≡ outcome (worth root)
  decides settled outcome stays root st at done = by_live st.live st.value at.0 at.1 done
    where
      by_live : (live : List T) (v : V) → ∥ F v ∥₁ → W v live ≡ worth root → is_done_by settled live v ≡ true → outcome v ≡ outcome (worth root)
      by_live [] v f whole done = ap outcome whole
      by_live (t ∷ ts) v f whole done = (stays v (worth root) f (laws.worth_fits root) (ap (joined v) (sym whole) ∙ absorbs v (t ∷ ts) f ∙ whole) done).1
