-- Places that are done, and where they stand.
use Rattle.std.proofs.Common.{◌≡◌, true≢false, ℕ, zero, suc, ◌<◌, Bool, true, false, cond, List, [], ◌∷◌, ◌++◌, length, set, Some, refl, ap, sym, ◌∙◌, arith, length-set}
use Rattle.std.specs.Prelude.{nat_eq}
use Rattle.std.specs.List.{slice_get}
use Rattle.pp_algebra.proofs.Bools.{nat_is, nat_same}
use Rattle.pp_resolve.specs.declared.suspended.Suspended.{Suspended}
use Rattle.pp_resolve.specs.Suspensions.{is_among, AreOrdered}
use Rattle.pp_resolve.proofs.Open.{slice_last}
use Rattle.std.proofs.lemmas.List.{get_or-set_same, get_or-set_other}
use Rattle.std.proofs.lemmas.Option.{slice_get_within, get_or_from_slice_get, slice_get-get_or}

-- what is among them stands somewhere
pub among_place : (n : ℕ) (ds : List ℕ) → is_among n ds ≡ true → (k : ℕ) × (slice_get ds k ≡ Some n)
among_place n [] h = absurd (true≢false (sym h))
among_place n (d ∷ ds) h = go (nat_eq n d) refl (among_place n ds)
  where
    go : (b : Bool) → nat_eq n d ≡ b → (is_among n ds ≡ true → (k : ℕ) × (slice_get ds k ≡ Some n)) → (k : ℕ) × (slice_get (d ∷ ds) k ≡ Some n)
    go true e f = (0, ap Some (sym (nat_is n d e)))
    go false e f = let later = f (ap (λ b. cond b true (is_among n ds)) (sym e) ∙ h) in (suc later.0, later.1)

pub place_among : (n : ℕ) (ds : List ℕ) (k : ℕ) → slice_get ds k ≡ Some n → is_among n ds ≡ true
place_among n [] k h = absurd (cc h)
place_among n (d ∷ ds) zero h = let same : d ≡ n = cc h in ap (λ b. cond b true (is_among n ds)) (ap (nat_eq n) same ∙ nat_same n)
place_among n (d ∷ ds) (suc k) h = ap (λ b. cond (nat_eq n d) true b) (place_among n ds k h) ∙ go (nat_eq n d)
  where
    go : (b : Bool) → cond b true true ≡ true
    go true = refl
    go false = refl

-- a place whose entry leads elsewhere is not done
pub not_among : (s : Suspended) (n : ℕ) → AreOrdered s → ((k : ℕ) → slice_get s.order.items n ≡ Some k → slice_get s.done.items k ≡ Some n → ⊥) → is_among n s.done.items ≡ false
not_among s n o none = go (is_among n s.done.items) refl
  where
    go : (b : Bool) → is_among n s.done.items ≡ b → b ≡ false
    go true e = let at = among_place n s.done.items e in absurd (none at.0 (o.places at.0 n at.1) at.1)
    go false e = refl

-- what stands at a place's entry tells whether it is done
pub entry_tells : (s : Suspended) (n k d : ℕ) → AreOrdered s → slice_get s.order.items n ≡ Some k → slice_get s.done.items k ≡ Some d → nat_eq d n ≡ is_among n s.done.items
entry_tells s n k d o at is = go (nat_eq d n) refl
  where
    go : (b : Bool) → nat_eq d n ≡ b → nat_eq d n ≡ is_among n s.done.items
    go true e = e ∙ sym (place_among n s.done.items k (is ∙ ap Some (nat_is d n e)))
    go false e = e ∙ sym (not_among s n o (λ j on there.
        let same : k ≡ j = cc (sym at ∙ on) in
        let this : d ≡ n = cc (sym is ∙ ap (slice_get s.done.items) same ∙ there) in
        absurd (true≢false (sym (nat_same n) ∙ ap (λ x. nat_eq x n) (sym this) ∙ e))))

slice_set_same : (xs : List ℕ) (i a : ℕ) → i < length xs → slice_get (set xs i a) i ≡ Some a
slice_set_same xs i a w = slice_get-get_or (set xs i a) i a (let n = length-set xs i a in omega (arith, n, w)) ∙ ap Some (get_or-set_same xs i a a w)

slice_set_other : (xs : List ℕ) (i j a x : ℕ) → (j ≡ i → ⊥) → slice_get xs j ≡ Some x → slice_get (set xs i a) j ≡ Some x
slice_set_other xs i j a x n e =
    let w = slice_get_within xs j x e in
    slice_get-get_or (set xs i a) j x (let m = length-set xs i a in omega (arith, m, w)) ∙ ap Some (get_or-set_other xs i j a x n ∙ get_or_from_slice_get xs j x x e)

-- one more is done
pub places_done : (ds order : List ℕ) (n : ℕ) → ((k d : ℕ) → slice_get ds k ≡ Some d → slice_get order d ≡ Some k) → is_among n ds ≡ false → n < length order
    → (k d : ℕ) → slice_get (ds ++ n ∷ []) k ≡ Some d → slice_get (set order n (length ds)) d ≡ Some k
places_done ds order n h o w k d e = slice_last ds n k d e (slice_get (set order n (length ds)) d ≡ Some k)
    (λ old. slice_set_other order n d (length ds) k (λ same. absurd (true≢false (sym (place_among n ds k (old ∙ ap Some same)) ∙ o))) (h k d old))
    (λ at same. ap (slice_get (set order n (length ds))) same ∙ slice_set_same order n (length ds) w ∙ ap Some (sym at))

slice_more : (xs : List ℕ) (y j x : ℕ) → slice_get xs j ≡ Some x → slice_get (xs ++ y ∷ []) j ≡ Some x
slice_more [] y j x e = absurd (cc e)
slice_more (z ∷ xs) y zero x e = e
slice_more (z ∷ xs) y (suc j) x e = slice_more xs y j x e

-- with one entry more
pub places_more : (ds order more : List ℕ) (y : ℕ) → more ≡ order ++ y ∷ [] → ((k d : ℕ) → slice_get ds k ≡ Some d → slice_get order d ≡ Some k) → (k d : ℕ) → slice_get ds k ≡ Some d → slice_get more d ≡ Some k
places_more ds order more y e h k d is = ap (λ xs. slice_get xs d) e ∙ slice_more order y d k (h k d is)
