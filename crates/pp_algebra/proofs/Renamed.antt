-- Other numbers for the variables of a row, that can be taken back.
use Rattle.std.proofs.Common.{◌≡◌, ℕ, Bool, List, [], ◌∷◌, refl, ap, sym, ◌∙◌, subst, inl, inr}
use Rattle.std.specs.Prelude.{nat_eq}
use Rattle.std.specs.List.{flat_map}
use Rattle.pp_algebra.specs.Terms.{variable, put_all, variables, variables_all}
use Rattle.pp_algebra.specs.Rows.{Domains, Pattern}
use Rattle.pp_algebra.specs.Covers.{IsIn, Covers, MayGo}
use Rattle.pp_algebra.specs.Canon.{canon}
use Rattle.pp_algebra.specs.Laws.{RenamedIsSame}
use Rattle.pp_algebra.proofs.Put.{put_all-put_all, put_all-variable}
use Rattle.pp_algebra.proofs.Order.{covers_through, may_stay, variables_all-put_all}
use Rattle.pp_algebra.proofs.Antisym.{put_all-agree, IsIn-either, covers_antisymmetric}
use Rattle.pp_algebra.proofs.CanonLemmas.{IsSame, nat_eq-IsSame, canon-IsCanonical, canon-covers, covers-canon}

pub comes_from : {V W : Type 0} (f : V → List W) (vs : List V) (w : W) → IsIn w (flat_map f vs) → (v : V) × IsIn v vs × IsIn w (f v)
comes_from f [] w i = absurd i
comes_from f (x ∷ vs) w i = elim (IsIn-either w (f x) (flat_map f vs) i) [
  | inl a ↦ (x, inl refl, a)
  | inr b ↦ (let r = comes_from f vs w b in (r.0, inr r.1, r.2))
]

module _ {V : Type 0} (same : V → V → Bool) (s : IsSame same) (f : V → ℕ) (g : ℕ → V) (p : Pattern V) (ds : Domains ℕ)
    (back : (v : V) → IsIn v (variables_all p.columns) → g (f v) ≡ v)
    (domains : (v : V) → IsIn v (variables_all p.columns) → ds (f v) ≡ p.domains v) where
  abbrev renamed : Pattern ℕ
  renamed = record { columns = put_all (λ v. variable (f v)) p.columns; domains = ds }

  there : Covers p renamed
  there = record { by = λ v. variable (f v); columns = refl; domains = λ v i. may_stay ds (f v) (p.domains v) (domains v i) }

  again : Covers renamed p
  again = record {
    by = λ k. variable (g k);
    columns =
        put_all-put_all (λ k. variable (g k)) (λ v. variable (f v)) p.columns
        ∙ put_all-agree (λ v. variable (g (f v))) variable p.columns (λ v i. ap variable (back v i))
        ∙ put_all-variable p.columns;
    domains = λ k i.
        let j = comes_from (λ v. variables (variable (f v))) (variables_all p.columns) k (subst (IsIn k) (variables_all-put_all (λ v. variable (f v)) p.columns) i) in
        came k j.0 j.1 j.2;
  }
    where
      came : (k : ℕ) (v : V) → IsIn v (variables_all p.columns) → IsIn k (f v ∷ []) → MayGo p.domains (ds k) (variable (g k))
      came k v i (inl e) = may_stay p.domains (g k) (ds k) (ap p.domains (ap g (sym e) ∙ back v i) ∙ sym (domains v i) ∙ ap ds e)
      came k v i (inr h) = absurd h

  pub canon_renamed : canon nat_eq (record { columns = put_all (λ v. variable (f v)) p.columns; domains = ds }) ≡ canon same p
  canon_renamed =
      covers_antisymmetric (canon nat_eq renamed) (canon same p) (canon-IsCanonical nat_eq nat_eq-IsSame renamed) (canon-IsCanonical same s p)
      (covers_through _ renamed _ (canon-covers nat_eq nat_eq-IsSame renamed) (covers_through _ p _ again (covers-canon same s p)))
      (covers_through _ p _ (canon-covers same s p) (covers_through _ renamed _ there (covers-canon nat_eq nat_eq-IsSame renamed)))

pub renamed_is_same : RenamedIsSame
renamed_is_same p ds f g h = canon_renamed nat_eq nat_eq-IsSame f g p ds (λ v i. (h v i).0) (λ v i. (h v i).1)
