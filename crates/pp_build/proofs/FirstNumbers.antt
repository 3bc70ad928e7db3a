-- Numbers that are given anew: whatever numbers came first, the new ones are those of the order of first occurrence.
use Rattle.std.proofs.Common.{◌≡◌, suc, Bool, true, false, ◌||◌, List, [], ◌∷◌, ◌++◌, length, map, refl, ap, sym, ◌∙◌}
use Rattle.std.specs.Prelude.{All, cond, nat_eq}
use Rattle.std.proofs.Math.ListN.{length-map}
use Rattle.std.proofs.lemmas.List.{map-append}
use Rattle.std.proofs.lemmas.List.Elements.{All-nil, All-head, All-tail, All-push}
use Rattle.std.proofs.lemmas.Option.{same_Some}
use Rattle.pp_algebra.specs.Terms.{Trees, variable, put_all, variables_all}
use Rattle.pp_algebra.specs.Canon.{has, place, firsts}
use Rattle.pp_algebra.specs.Covers.{IsIn}
use Rattle.pp_algebra.proofs.Put.{put_all-put_all}
use Rattle.pp_algebra.proofs.Antisym.{put_all-agree}
use Rattle.pp_algebra.proofs.CanonLemmas.{IsSame, nat_eq-IsSame, at, at-place}
use Rattle.pp_build.specs.Renumbered.{placed}

-- ===== another name for each

module _ {V W : Type 0} (same : V → V → Bool) (same' : W → W → Bool) (f : V → W) (P : V → Type 0) (agree : (x y : V) → P x → P y → same' (f x) (f y) ≡ same x y) where
  has-renamed : (vs : List V) (x : V) → All P vs → P x → has same' (map f vs) (f x) ≡ has same vs x
  has-renamed [] x h p = refl
  has-renamed (v ∷ vs) x h p = ap (λ b. b || has same' (map f vs) (f x)) (agree v x (All-head P v vs h) p) ∙ ap (λ b. same v x || b) (has-renamed vs x (All-tail P v vs h) p)

  place-renamed : (vs : List V) (x : V) → All P vs → P x → place same' (map f vs) (f x) ≡ place same vs x
  place-renamed [] x h p = refl
  place-renamed (v ∷ vs) x h p = ap (λ b. cond b 0 (suc (place same' (map f vs) (f x)))) (agree v x (All-head P v vs h) p) ∙ ap (λ k. cond (same v x) 0 (suc k)) (place-renamed vs x (All-tail P v vs h) p)

  firsts-renamed : (seen vs : List V) → All P seen → All P vs → firsts same' (map f seen) (map f vs) ≡ map f (firsts same seen vs)
  firsts-renamed seen [] h g = refl
  firsts-renamed seen (v ∷ vs) h g =
      let p = All-head P v vs g in
      let t = All-tail P v vs g in
      ap (λ b. cond b (firsts same' (map f seen) (map f vs)) (firsts same' (map f seen ++ f v ∷ []) (map f vs))) (has-renamed seen v h p)
      ∙ elim (has same seen v) as (λ b. cond b (firsts same' (map f seen) (map f vs)) (firsts same' (map f seen ++ f v ∷ []) (map f vs)) ≡ map f (cond b (firsts same seen vs) (firsts same (seen ++ v ∷ []) vs))) [
        | true ↦ firsts-renamed seen vs h t
        | false ↦ ap (λ xs. firsts same' xs (map f vs)) (sym (map-append f seen (v ∷ []))) ∙ firsts-renamed (seen ++ v ∷ []) vs (All-push P seen v h p) t
      ]

module _ {V : Type 0} (same : V → V → Bool) (P : V → Type 0) where
  firsts-all : (seen vs : List V) → All P seen → All P vs → All P (firsts same seen vs)
  firsts-all seen [] h g = h
  firsts-all seen (v ∷ vs) h g = elim (has same seen v) as (λ b. All P (cond b (firsts same seen vs) (firsts same (seen ++ v ∷ []) vs))) [
    | true ↦ firsts-all seen vs h (All-tail P v vs g)
    | false ↦ firsts-all (seen ++ v ∷ []) vs (All-push P seen v h (All-head P v vs g)) (All-tail P v vs g)
  ]

-- ===== places in any list that has them all

module _ {V : Type 0} (same : V → V → Bool) (s : IsSame same) (ks : List V) where
  abbrev pub Stands : V → Type 0
  Stands x = has same ks x ≡ true

  same_place : (x y : V) → Stands x → Stands y → nat_eq (place same ks x) (place same ks y) ≡ same x y
  same_place x y h g = go (same x y) (nat_eq (place same ks x) (place same ks y)) refl refl
    where
      go : (a b : Bool) → same x y ≡ a → nat_eq (place same ks x) (place same ks y) ≡ b → b ≡ a
      go true true e f = refl
      go false false e f = refl
      go true false e f =
          let z : x ≡ y = s.is x y e in
          let q : nat_eq (place same ks x) (place same ks y) ≡ true = ap (λ v. nat_eq (place same ks x) (place same ks v)) (sym z) ∙ nat_eq-IsSame.itself (place same ks x) in
          absurd (cc (q, f))
      go false true e f =
          let p : place same ks x ≡ place same ks y = nat_eq-IsSame.is (place same ks x) (place same ks y) f in
          let z : x ≡ y = same_Some x y (sym (at-place same s ks x h) ∙ ap (at same ks) p ∙ at-place same s ks y g) in
          let q : same x y ≡ true = ap (same x) (sym z) ∙ s.itself x in
          absurd (cc (q, e))

  firsts_of_places : (vs : List V) → All Stands vs → firsts nat_eq [] (map (place same ks) vs) ≡ map (place same ks) (firsts same [] vs)
  firsts_of_places vs h = firsts-renamed same nat_eq (place same ks) Stands same_place [] vs (All-nil Stands) h

  pub places_counted : (vs : List V) → All Stands vs → length (firsts nat_eq [] (map (place same ks) vs)) ≡ length (firsts same [] vs)
  places_counted vs h = ap length (firsts_of_places vs h) ∙ length-map (firsts same [] vs) (place same ks)

  -- the number of the number is the number by first occurrence
  pub place_again : (vs : List V) (x : V) → All Stands vs → Stands x → place nat_eq (firsts nat_eq [] (map (place same ks) vs)) (place same ks x) ≡ place same (firsts same [] vs) x
  place_again vs x h p = ap (λ ns. place nat_eq ns (place same ks x)) (firsts_of_places vs h) ∙ place-renamed same nat_eq (place same ks) Stands same_place (firsts same [] vs) x (firsts-all same Stands [] vs (All-nil Stands) h) p

  -- terms that are numbered by their places, and then anew
  pub numbered_again : (vs : List V) (ts : Trees V) → All Stands vs → ((v : V) → IsIn v (variables_all ts) → Stands v)
      → put_all (placed (firsts nat_eq [] (map (place same ks) vs))) (put_all (λ v. variable (place same ks v)) ts) ≡ put_all (λ v. variable (place same (firsts same [] vs) v)) ts
  numbered_again vs ts h g =
      let ns = firsts nat_eq [] (map (place same ks) vs) in
      put_all-put_all (placed ns) (λ v. variable (place same ks v)) ts
      ∙ put_all-agree (λ v. placed ns (place same ks v)) (λ v. variable (place same (firsts same [] vs) v)) ts (λ v i. ap variable (place_again vs v h (g v i)))
