-- The first live task that is the same.
use Rattle.std.proofs.Common.{◌≡◌, ℕ, suc, ◌<◌, Bool, true, List, ◌∷◌, ◌++◌, length, get_or, take, drop, remove, sym, ap, ◌∙◌, cond, ◌||◌}
use Rattle.std.proofs.Math.Seq.{drop-cons}
use Rattle.pp_core.specs.Runs.{is_live, without}

module _ {T : Type 0} (same : T → T → Bool) where
  pub found : (t u : T) (us : List T) (i : ℕ) → i < length us → u ≡ get_or us i u → same t u ≡ true
      → is_live same t us ≡ is_live same t (drop i us) → without same t us ≡ take i us ++ without same t (drop i us)
      → (is_live same t us ≡ true) × (remove us i ≡ without same t us)
  found t u us i lt at hit a b =
      let c : drop i us ≡ u ∷ drop (suc i) us = drop-cons us i u lt ∙ ap (λ (x : T). x ∷ drop (suc i) us) (sym at) in (
        a ∙ (ap (is_live same t) c ∙ ap (λ (x : Bool). x || is_live same t (drop (suc i) us)) hit),
        sym (b ∙ ap (λ (l : List T). take i us ++ l) (ap (without same t) c ∙ ap (λ (x : Bool). cond x (drop (suc i) us) (u ∷ without same t (drop (suc i) us))) hit)),
      )
