-- A set that keeps its keys in order, as a list of names.
use Rattle.std.proofs.Common.{◌≡◌, ℕ, suc, ◌+◌, Bool, true, false, List, [], ◌∷◌, ◌++◌, length, map, take, get_or, ◌<◌, Some, None, refl, ap, sym, ◌∙◌, arith, subst, append_assoc, append-nil}
use Rattle.std.specs.Prelude.{cond, ◌||◌, not, nat_eq, nat_lt}
use Rattle.std.specs.List.{list_any, position, position_or_len}
use Rattle.pp_algebra.specs.Canon.{has, place, firsts, Distinct}
use Rattle.pp_algebra.proofs.Bools.{nat_same, nat_is, left_true, right_true, both_true}
use Rattle.pp_algebra.proofs.CanonLemmas.{IsSame, nat_eq-IsSame}
use Rattle.std.proofs.lemmas.List.{map-append, take_more}
use Rattle.pp_algebra.specs.Texts.{same_text}
use Rattle.pp_row.proofs.Numbering.{place_taken, place-push, firsts-append}

module _ {V : Type 0} (same : V → V → Bool) (s : IsSame same) where
  turned : (v w : V) (b : Bool) → same v w ≡ b → same w v ≡ b
  turned v w true e = rw (s.is v w e) (s.itself w)
  turned v w false e = go (same w v) refl
    where
      go : (c : Bool) → same w v ≡ c → c ≡ false
      go true f = let g : same v w ≡ true = rw (s.is w v f) (s.itself v) in absurd (cc (e, g))
      go false f = refl

  module _ {K : Type 0} (f : K → V) where
    pub any_has : (ks : List K) (v : V) → list_any (λ k. same v (f k)) ks ≡ has same (map f ks) v
    any_has [] v = refl
    any_has (k ∷ ks) v = rw (turned v (f k) (same v (f k)) refl, any_has ks v) refl

    pub position_place : (ks : List K) (v : V) → position_or_len (λ k. same v (f k)) ks ≡ place same (map f ks) v
    position_place [] v = refl
    position_place (k ∷ ks) v = rw (turned v (f k) (same v (f k)) refl, position_place ks v) (go (same v (f k)) (place same (map f ks) v))
      where
        go : (b : Bool) (n : ℕ) → cond (not b) (1 + n) 0 ≡ cond b 0 (suc n)
        go true n = refl
        go false n = omega arith

    -- the names after a key was taken in
    pub taken : (old new : List K) (k : K) → new ≡ cond (list_any (λ j. same (f k) (f j)) old) old (old ++ k ∷ []) → map f new ≡ firsts same (map f old) (f k ∷ [])
    taken old new k e = ap (map f) e ∙ go (list_any (λ j. same (f k) (f j)) old) (any_has old (f k))
      where
        go : (b : Bool) → b ≡ has same (map f old) (f k) → map f (cond b old (old ++ k ∷ [])) ≡ cond (has same (map f old) (f k)) (map f old) (map f old ++ f k ∷ [])
        go true h = rw (← h) refl
        go false h = rw (← h) (map-append f old (k ∷ []))

    pub place_now : (old new : List K) (k : K) (n : ℕ) → new ≡ cond (list_any (λ j. same (f k) (f j)) old) old (old ++ k ∷ []) → n ≡ place same (map f old) (f k) → n ≡ place same (map f new) (f k)
    place_now old new k n e h = h ∙ sym (place_taken same (map f old) (f k) (s.itself (f k))) ∙ ap (λ vs. place same vs (f k)) (sym (taken old new k e))

    pub has_none : (old : List K) (v : V) → false ≡ list_any (λ j. same v (f j)) old → has same (map f old) v ≡ false
    has_none old v h = sym (any_has old v) ∙ sym h

    -- a new key
    pub taken_new : (old new : List K) (k : K) (v : V) → f k ≡ v → false ≡ list_any (λ j. same v (f j)) old → new ≡ cond (list_any (λ j. same (f k) (f j)) old) old (old ++ k ∷ []) → map f new ≡ map f old ++ v ∷ []
    taken_new old new k v e h g =
        let a : list_any (λ j. same (f k) (f j)) old ≡ false = ap (λ x. list_any (λ j. same x (f j)) old) e ∙ sym h in
        ap (map f) g ∙ ap (λ b. map f (cond b old (old ++ k ∷ []))) a ∙ map-append f old (k ∷ []) ∙ ap (λ x. map f old ++ x ∷ []) e

  found_later : (vs ws : List V) (v x : V) → has same (vs ++ v ∷ ws) x ≡ false → same v x ≡ false
  found_later [] ws v x h = elim (same v x) as (λ b. (b || has same ws x) ≡ false → b ≡ false) [ true ↦ λ h. h | false ↦ λ h. refl ] h
  found_later (w ∷ vs) ws v x h = elim (same w x) as (λ b. (b || has same (vs ++ v ∷ ws) x) ≡ false → same v x ≡ false) [ true ↦ λ h. absurd (cc) | false ↦ λ h. found_later vs ws v x h ] h

  new_after : (seen vs : List V) (v : V) → Distinct same (seen ++ v ∷ vs) → has same seen v ≡ false
  new_after [] vs v d = refl
  new_after (x ∷ seen) vs v d = rw (turned v x false (found_later seen vs v x d.0), new_after seen vs v d.1) refl

  -- where none stands twice, each one is new
  pub firsts-distinct : (seen vs : List V) → Distinct same (seen ++ vs) → firsts same seen vs ≡ seen ++ vs
  firsts-distinct seen [] d = sym (append-nil seen)
  firsts-distinct seen (v ∷ vs) d = rw (new_after seen vs v d) (firsts-distinct (seen ++ v ∷ []) vs (subst (Distinct same) (sym (append_assoc seen (v ∷ []) vs)) d) ∙ append_assoc seen (v ∷ []) vs)

pub map_same : {K : Type 0} (ks : List K) → map (λ k. k) ks ≡ ks
map_same [] = refl
map_same (k ∷ ks) = ap (λ ns. k ∷ ns) (map_same ks)

pub place_past : {V : Type 0} (same : V → V → Bool) (vs : List V) (v : V) → has same vs v ≡ false → place same vs v ≡ length vs
place_past same [] v h = refl
place_past same (x ∷ vs) v h = elim (same x v) as (λ b. (b || has same vs v) ≡ false → cond b 0 (suc (place same vs v)) ≡ suc (length vs)) [ true ↦ λ h. absurd (cc) | false ↦ λ h. ap suc (place_past same vs v h) ] h

pub position_some : {K : Type 0} (p : K → Bool) (ks : List K) (n : ℕ) → Some n ≡ position p ks → n ≡ position_or_len p ks
position_some p ks n e = go (nat_lt (position_or_len p ks) (length ks)) e
  where
    go : (b : Bool) → Some n ≡ cond b (Some (position_or_len p ks)) None → n ≡ position_or_len p ks
    go true e = cc
    go false e = absurd (cc)

-- the same for numbers
pub taken_number : (old new : List ℕ) (k : ℕ) → new ≡ cond (list_any (nat_eq k) old) old (old ++ k ∷ []) → new ≡ firsts nat_eq old (k ∷ [])
taken_number old new k e = sym (map_same new) ∙ taken nat_eq nat_eq-IsSame (λ j. j) old new k e ∙ ap (λ ns. firsts nat_eq ns (k ∷ [])) (map_same old)

pub place_number : (old new : List ℕ) (k n : ℕ) → new ≡ cond (list_any (nat_eq k) old) old (old ++ k ∷ []) → n ≡ position_or_len (nat_eq k) old → n ≡ place nat_eq new k
place_number old new k n e h =
    place_now nat_eq nat_eq-IsSame (λ j. j) old new k n e (h ∙ position_place nat_eq nat_eq-IsSame (λ j. j) old k) ∙ ap (λ ns. place nat_eq ns k) (map_same new)

pub firsts_new : {V : Type 0} (same : V → V → Bool) (vs : List V) (v : V) → has same vs v ≡ false → firsts same vs (v ∷ []) ≡ vs ++ v ∷ []
firsts_new same vs v h = rw h refl

pub place_new : {V : Type 0} (same : V → V → Bool) (vs : List V) (v : V) → same v v ≡ true → has same vs v ≡ false → place same (vs ++ v ∷ []) v ≡ length vs
place_new same vs v s h = place-push same vs v s ∙ place_past same vs v h

-- one more key among the first ones
pub firsts_more :
    {K V : Type 0} (same : V → V → Bool) (f : K → V) (ks : List K) (i : ℕ) (k : K) (old new : List V) (v : V)
    → i < length ks
    → old ≡ firsts same [] (map f (take i ks))
    → k ≡ get_or ks i k
    → v ≡ f k
    → new ≡ firsts same old (v ∷ [])
    → new ≡ firsts same [] (map f (take (i + 1) ks))
firsts_more same f ks i k old new v l e h g n =
    n
    ∙ ap (λ vs. firsts same vs (v ∷ [])) e
    ∙ sym (firsts-append same [] (map f (take i ks)) (v ∷ []))
    ∙ ap (firsts same []) (ap (λ w. map f (take i ks) ++ w ∷ []) (g ∙ ap f h) ∙ sym (map-append f (take i ks) (get_or ks i k ∷ [])) ∙ sym (ap (map f) (take_more ks i k l)))
