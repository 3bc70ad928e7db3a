-- Whatever numbers a pattern's variables by first occurrence is its row.
use Rattle.std.proofs.Common.{◌≡◌, ℕ, zero, suc, ◌<◌, ◌≤◌, true, false, Bool, List, [], ◌∷◌, ◌++◌, map, length, Option, Some, None, refl, ap, sym, ◌∙◌, subst, inl, inr, arith}
use Rattle.std.specs.Prelude.{cond, ◌||◌}
use Rattle.std.specs.List.{flat_map}
use Rattle.pp_algebra.specs.Terms.{variable, put, put_all, variables, variables_all}
use Rattle.pp_algebra.specs.Covers.{MayGo, IsIn, Covers}
use Rattle.pp_algebra.specs.Rows.{IsNumbered, Pattern, Row, IsCanonical, pattern_of, domain_at}
use Rattle.pp_algebra.specs.Canon.{has, place, canon, Distinct}
use Rattle.pp_algebra.proofs.Put.{put_all-put_all, put_all-variable}
use Rattle.pp_algebra.proofs.Order.{variables_all-put_all, may_stay, covers_through}
use Rattle.pp_algebra.proofs.Antisym.{put_all-agree, covers_antisymmetric, IsIn-either}
use Rattle.pp_algebra.proofs.CanonLemmas.{IsSame, at, name, goes_at, domain_at-place, canon-IsCanonical, canon-covers, covers-canon}

below : (vs : List ℕ) (n m v : ℕ) → IsNumbered n vs m → IsIn v vs → (v < m) × (n ≤ m)
below [] n m v h i = absurd i
below (x ∷ []) n m v (inl h) (inl e) = (omega (arith, e, h.0, h.1), omega (arith, h.1))
below (x ∷ []) n m v (inr h) (inl e) = (omega (arith, e, h.0, h.1), omega (arith, h.1))
below (x ∷ (y ∷ vs)) n m v (inl h) (inl e) = let r = below (y ∷ vs) n m y h.1 (inl refl) in (omega (arith, e, h.0, r.1), r.1)
below (x ∷ (y ∷ vs)) n m v (inr h) (inl e) = let r = below (y ∷ vs) (suc n) m y h.1 (inl refl) in (omega (arith, e, h.0, r.1), omega (arith, r.1))
below (x ∷ vs) n m v (inl h) (inr i) = below vs n m v h.1 i
below (x ∷ vs) n m v (inr h) (inr i) = let r = below vs (suc n) m v h.1 i in (r.0, omega (arith, r.1))

from_flat_map : {V W : Type 0} (f : V → List W) (vs : List V) (w : W) → IsIn w (flat_map f vs) → (v : V) × IsIn v vs × IsIn w (f v)
from_flat_map f [] w i = absurd i
from_flat_map f (x ∷ vs) w i = elim (IsIn-either w (f x) (flat_map f vs) i) [
  | inl a ↦ (x, inl refl, a)
  | inr b ↦ (let r = from_flat_map f vs w b in (r.0, inr r.1, r.2))
]

module _ {V : Type 0} (same : V → V → Bool) (s : IsSame same) where
  has-at : (ns : List V) (k : ℕ) (v : V) → at same ns k ≡ Some v → has same ns v ≡ true
  has-at [] k v e = absurd (cc)
  has-at (x ∷ ns) zero v e = let f : x ≡ v = cc in rw (f, s.itself v) refl
  has-at (x ∷ ns) (suc k) v e = or_right (same x v) (has same ns v) (has-at ns k v e)
    where
      or_right : (a b : Bool) → b ≡ true → (a || b) ≡ true
      or_right true b h = refl
      or_right false b h = h

  place-later : (x v : V) (ns : List V) (k : ℕ) → has same ns x ≡ false → at same ns k ≡ Some v → place same ns v ≡ k → place same (x ∷ ns) v ≡ suc k
  place-later x v ns k h e f = go (same x v) refl
    where
      go : (b : Bool) → same x v ≡ b → cond b 0 (suc (place same ns v)) ≡ suc k
      go true g = let i : has same ns x ≡ true = rw (s.is x v g) (has-at ns k v e) in absurd (cc (i, h))
      go false g = ap suc f

  place-of : (ns : List V) → Distinct same ns → (k : ℕ) (v : V) → at same ns k ≡ Some v → place same ns v ≡ k
  place-of [] d k v e = absurd (cc)
  place-of (x ∷ ns) d zero v e = let f : x ≡ v = cc in rw (f, s.itself v) refl
  place-of (x ∷ ns) d (suc k) v e = place-later x v ns k d.0 e (place-of ns d.1 k v e)

  at_some : (ns : List V) (k : ℕ) → k < length ns → (v : V) × (at same ns k ≡ Some v)
  at_some [] k h = absurd (omega arith)
  at_some (x ∷ ns) zero h = (x, refl)
  at_some (x ∷ ns) (suc k) h = at_some ns k (omega arith)

  place-at : (ns : List V) → Distinct same ns → (k : ℕ) → k < length ns → put (λ v. variable (place same ns v)) (name same (at same ns k)) ≡ variable k
  place-at ns d k h =
      let r = at_some ns k h in
      ap (λ o. put (λ v. variable (place same ns v)) (name same o)) r.1 ∙ ap variable (place-of ns d k r.0 r.1)

  named_in : (ns : List V) (k : ℕ) (v : V) → IsIn v (variables (name same (at same ns k))) → at same ns k ≡ Some v
  named_in ns k v i = go (at same ns k) i
    where
      go : (o : Option V) → IsIn v (variables (name same o)) → o ≡ Some v
      go None i = absurd i
      go (Some w) (inl e) = ap Some e
      go (Some w) (inr e) = absurd e

  pub one_canon : (p : Pattern V) (r : Row) (ns : List V) → IsCanonical r → Distinct same ns → put_all (λ k. name same (at same ns k)) r.columns ≡ p.columns → r.domains ≡ map p.domains ns → length r.domains ≡ length ns → r ≡ canon same p
  one_canon p r ns c d e f l =
      let to : Covers (pattern_of r) p = record { by = λ k. name same (at same ns k); columns = e; domains = λ k _. subst (λ ds. MayGo p.domains (domain_at ds k) (name same (at same ns k))) (sym f) (goes_at same p.domains ns k) } in
      let back : Covers p (pattern_of r) = record {
        by = λ v. variable (place same ns v);
        columns =
            ap (put_all (λ v. variable (place same ns v))) (sym e)
            ∙ put_all-put_all (λ v. variable (place same ns v)) (λ k. name same (at same ns k)) r.columns
            ∙ put_all-agree (λ k. put (λ v. variable (place same ns v)) (name same (at same ns k))) variable r.columns (λ k i. place-at ns d k (omega (arith, (below (variables_all r.columns) 0 (length r.domains) k c i).0, l)))
            ∙ put_all-variable r.columns;
        domains = λ v i.
            let j = from_flat_map (λ k. variables (name same (at same ns k))) (variables_all r.columns) v (subst (IsIn v) (ap variables_all (sym e) ∙ variables_all-put_all (λ k. name same (at same ns k)) r.columns) i) in
            let h = has-at ns j.0 v (named_in ns j.0 v j.2) in
            may_stay (domain_at r.domains) (place same ns v) (p.domains v) (ap (λ ds. domain_at ds (place same ns v)) f ∙ domain_at-place same s p.domains ns v h);
      } in
      covers_antisymmetric r (canon same p) c (canon-IsCanonical same s p) (covers_through _ _ _ to (covers-canon same s p)) (covers_through _ _ _ (canon-covers same s p) back)

pub numbered_push : (vs : List ℕ) (n m v : ℕ) → IsNumbered n vs m → v < m → IsNumbered n (vs ++ v ∷ []) m
numbered_push [] n m v h l = inl (omega arith, h)
numbered_push (x ∷ vs) n m v (inl h) l = inl (h.0, numbered_push vs n m v h.1 l)
numbered_push (x ∷ vs) n m v (inr h) l = inr (h.0, numbered_push vs (suc n) m v h.1 l)

pub numbered_new : (vs : List ℕ) (n m : ℕ) → IsNumbered n vs m → IsNumbered n (vs ++ m ∷ []) (suc m)
numbered_new [] n m h = inr (sym h, ap suc h)
numbered_new (x ∷ vs) n m (inl h) = inl (h.0, numbered_new vs n m h.1)
numbered_new (x ∷ vs) n m (inr h) = inr (h.0, numbered_new vs (suc n) m h.1)

left_false : (a b : Bool) → (a || b) ≡ false → a ≡ false
left_false true b h = h
left_false false b h = refl

right_false : (a b : Bool) → (a || b) ≡ false → b ≡ false
right_false true b h = absurd (cc)
right_false false b h = h

module _ {V : Type 0} (same : V → V → Bool) (s : IsSame same) where
  turned : (x v : V) (b : Bool) → same v x ≡ b → same x v ≡ false → same v x ≡ false
  turned x v true e h = let f : same x v ≡ true = rw (s.is v x e) (s.itself x) in absurd (cc)
  turned x v false e h = e

  has_push : (v x : V) (ws : List V) → same v x ≡ false → has same ws x ≡ false → has same (ws ++ v ∷ []) x ≡ false
  has_push v x [] e f = rw e refl
  has_push v x (w ∷ ws) e f = rw (left_false (same w x) _ f) (has_push v x ws e (right_false (same w x) _ f))

  pub distinct_push : (vs : List V) (v : V) → Distinct same vs → has same vs v ≡ false → Distinct same (vs ++ v ∷ [])
  distinct_push [] v d h = (refl, tt)
  distinct_push (x ∷ vs) v d h = (has_push v x vs (turned x v (same v x) refl (left_false (same x v) _ h)) d.0, distinct_push vs v d.1 (right_false (same x v) _ h))

  pub not_has : (vs : List V) (v : V) → ((w : V) → IsIn w vs → w ≡ v → ⊥) → has same vs v ≡ false
  not_has [] v h = refl
  not_has (x ∷ vs) v h = not_here x v (has same vs v) (same x v) refl (h x (inl refl)) (not_has vs v (λ w i. h w (inr i)))
    where
      not_here : (x v : V) (c b : Bool) → same x v ≡ b → (x ≡ v → ⊥) → c ≡ false → (b || c) ≡ false
      not_here x v c true e f g = absurd (f (s.is x v e))
      not_here x v c false e f g = g
