-- The index by first argument, while clauses are added and as it is asked.
use Rattle.std.proofs.Common.{◌≡◌, ◌≢◌, ◌⊎◌, ℕ, zero, suc, ◌+◌, ◌<◌, ◌≤◌, Bool, true, false, cond, min, List, [], ◌∷◌, ◌++◌, length, get_or, set, Option, Some, None, MatchOption, IfSome, Vec, Result, Ok, Err, OnErr, Global, refl, ap, sym, ◌∙◌, subst, inl, inr, arith, true≢false, append-nil, length-append}
use Rattle.std.specs.Prelude.{◌||◌, slice_get, nat_eq}
use Rattle.std.proofs.lemmas.List.{length-set, get_or-set_same, get_or-set_other, get_or-map, map-set}
use Rattle.pp_algebra.specs.Canon.{has, place, firsts}
use Rattle.pp_algebra.specs.Covers.{IsIn}
use Rattle.pp_algebra.proofs.Bools.{nat_same, nat_is, int_same, int_is, left_true, right_true}
use Rattle.pp_algebra.proofs.CanonLemmas.{IsSame, has-all}
use Rattle.std.specs.List.{list_any, position, position_or_len}
use Rattle.pp_row.proofs.Keys.{place_past, position_some, position_place, has_none, map_same, taken, place_now}
use Rattle.pp_clause.specs.contracts.first.FirstPartialEq.TheImpl.{eq-value}
use Rattle.pp_clause.specs.declared.first.First.{First}
use Rattle.pp_clause.specs.declared.first.First.TheVariants.{Int, Atom, Functor, Free}
use Rattle.pp_clause.specs.Firsts.{same_first, may_be}
use Rattle.pp_clause.specs.Index.{lists_of, places_of, IsIndex, Ascends, IsNextIn, earlier}
use Rattle.pp_clause.specs.Table.{AreOut, IsNextTop}
use Rattle.pp_clause.proofs.Groups.{cases_within, some_is, get_within}

pub same_first-itself : (f : First) → same_first f f ≡ true
same_first-itself (Int n) = int_same n
same_first-itself (Atom a) = nat_same a
same_first-itself (Functor f k) = rw (nat_same f, nat_same k) refl
same_first-itself Free = refl

pub same_first-is : (f g : First) → same_first f g ≡ true → f ≡ g
same_first-is (Int n) (Int m) h = ap Int (int_is n m h)
same_first-is (Int n) (Atom b) h = absurd (cc)
same_first-is (Int n) (Functor g l) h = absurd (cc)
same_first-is (Int n) Free h = absurd (cc)
same_first-is (Atom a) (Int m) h = absurd (cc)
same_first-is (Atom a) (Atom b) h = ap Atom (nat_is a b h)
same_first-is (Atom a) (Functor g l) h = absurd (cc)
same_first-is (Atom a) Free h = absurd (cc)
same_first-is (Functor f k) (Int m) h = absurd (cc)
same_first-is (Functor f k) (Atom b) h = absurd (cc)
same_first-is (Functor f k) (Functor g l) h = ap (λ x. Functor x k) (nat_is f g (left_true _ _ h)) ∙ ap (Functor g) (nat_is k l (right_true (nat_eq f g) _ h))
same_first-is (Functor f k) Free h = absurd (cc)
same_first-is Free (Int m) h = absurd (cc)
same_first-is Free (Atom b) h = absurd (cc)
same_first-is Free (Functor g l) h = absurd (cc)
same_first-is Free Free h = refl

pub same_first-IsSame : IsSame same_first
same_first-IsSame = record { itself = same_first-itself; is = same_first-is }

-- what `==` answers
eq_is : (a b : First) → eq-value.it a b ≡ same_first a b
eq_is (Int n) (Int m) = refl
eq_is (Int n) (Atom b) = refl
eq_is (Int n) (Functor g l) = refl
eq_is (Int n) Free = refl
eq_is (Atom a) (Int m) = refl
eq_is (Atom a) (Atom b) = refl
eq_is (Atom a) (Functor g l) = refl
eq_is (Atom a) Free = refl
eq_is (Functor f k) (Int m) = refl
eq_is (Functor f k) (Atom b) = refl
eq_is (Functor f k) (Functor g l) = refl
eq_is (Functor f k) Free = refl
eq_is Free (Int m) = refl
eq_is Free (Atom b) = refl
eq_is Free (Functor g l) = refl
eq_is Free Free = refl

pub eq_same : eq-value.it ≡ same_first
eq_same = λ i a b. eq_is a b i

module _ (keys : List First) (f : First) where
  pub found_at : (n : ℕ) → Some n ≡ position (eq-value.it f) keys → n ≡ place same_first keys f
  found_at n e =
      position_some (same_first f) keys n (subst (λ d. Some n ≡ position (d f) keys) eq_same e)
      ∙ position_place same_first same_first-IsSame (λ k. k) keys f ∙ ap (λ ks. place same_first ks f) (map_same keys)

  pub not_found : false ≡ list_any (eq-value.it f) keys → place same_first keys f ≡ length keys
  not_found e =
      place_past same_first keys f (ap (λ ks. has same_first ks f) (sym (map_same keys)) ∙ has_none same_first same_first-IsSame (λ k. k) keys f (subst (λ d. false ≡ list_any (d f) keys) eq_same e))

-- a number of an ascending list by its index
index_of : (xs : List ℕ) (k : ℕ) → IsIn k xs → (j : ℕ) × (j < length xs) × (get_or xs j 0 ≡ k)
index_of [] k i = absurd i
index_of (x ∷ xs) k (inl e) = (0, omega arith, e)
index_of (x ∷ xs) k (inr i) = let r = index_of xs k i in (suc r.0, (let l = r.1 in omega arith), r.2)

is_at : (xs : List ℕ) (j : ℕ) → j < length xs → IsIn (get_or xs j 0) xs
is_at [] j l = absurd (omega (arith, l))
is_at (x ∷ xs) zero l = inl refl
is_at (x ∷ xs) (suc j) l = inr (is_at xs j (omega (arith, l)))

module _ (xs : List ℕ) (from at : ℕ) (a : Ascends xs) (below : (k : ℕ) → k < at → get_or xs k 0 < from) (rest : (k : ℕ) → at ≤ k → k < length xs → from ≤ get_or xs k 0) where
  pub next_some : at < length xs → (from ≤ get_or xs at 0) × IsIn (get_or xs at 0) xs × ((k : ℕ) → IsIn k xs → from ≤ k → get_or xs at 0 ≤ k)
  next_some l = (
    rest at (omega arith) l,
    is_at xs at l,
    λ k i f.
        let r = index_of xs k i in
        elim (cases_within r.0 at) [
          | inl b ↦ (let w = below r.0 b in absurd (omega (arith, w, r.2, f)))
          | inr b ↦ (let w = a at r.0 b r.1 in omega (arith, w, r.2))
        ],
  )

  pub next_none : length xs ≤ at → (k : ℕ) → IsIn k xs → k < from
  next_none l = λ k i. let r = index_of xs k i in let w = below r.0 (omega (arith, r.1, l)) in omega (arith, w, r.2)

-- the earlier of two
pub earlier_both : (xs ys : List ℕ) (from : ℕ) (a b : Option ℕ) → IsNextIn xs from a → IsNextIn ys from b
    → MatchOption (earlier a b) ((k : ℕ) → IsIn k xs ⊎ IsIn k ys → k < from) (λ n. (from ≤ n) × (IsIn n xs ⊎ IsIn n ys) × ((k : ℕ) → IsIn k xs ⊎ IsIn k ys → from ≤ k → n ≤ k))
earlier_both xs ys from None None h k = λ n i. elim i [ inl j ↦ h n j | inr j ↦ k n j ]
earlier_both xs ys from None (Some b) h k = (k.0, inr k.1, λ n i l. elim i [ inl j ↦ (let w = h n j in absurd (omega (arith, w, l))) | inr j ↦ k.2 n j l ])
earlier_both xs ys from (Some a) None h k = (h.0, inl h.1, λ n i l. elim i [ inl j ↦ h.2 n j l | inr j ↦ (let w = k n j in absurd (omega (arith, w, l))) ])
earlier_both xs ys from (Some a) (Some b) h k = (
  omega (arith, h.0, k.0),
  elim (cases_within a b) [
    | inl l ↦ (let e : a ≡ min a b = omega (arith, l) in inl (subst (λ n. IsIn n xs) e h.1))
    | inr l ↦ (let e : b ≡ min a b = omega (arith, l) in inr (subst (λ n. IsIn n ys) e k.1))
  ],
  λ n i l. elim i [ inl j ↦ (let w = h.2 n j l in omega (arith, w)) | inr j ↦ (let w = k.2 n j l in omega (arith, w)) ],
)

module _ (f : First) where
  -- those of a list are at least the first number, ascend, and have the top
  least-by : (n : ℕ) (xs : List ℕ) (b : Bool) → ((j : ℕ) → j < length xs → suc n ≤ get_or xs j 0) → (j : ℕ) → j < length (cond b (n ∷ xs) xs) → n ≤ get_or (cond b (n ∷ xs) xs) j 0
  least-by n xs true h zero l = omega arith
  least-by n xs true h (suc j) l = let w = h j (omega (arith, l)) in omega (arith, w)
  least-by n xs false h j l = let w = h j l in omega (arith, w)

  least : (n : ℕ) (ts : List First) (j : ℕ) → j < length (places_of f n ts) → n ≤ get_or (places_of f n ts) j 0
  least n [] j l = absurd (omega (arith, l))
  least n (t ∷ ts) j l = least-by n (places_of f (suc n) ts) (same_first f t) (least (suc n) ts) j l

  ascends-by : (n : ℕ) (xs : List ℕ) (b : Bool) → ((j : ℕ) → j < length xs → suc n ≤ get_or xs j 0) → Ascends xs → Ascends (cond b (n ∷ xs) xs)
  ascends-by n xs false h a = a
  ascends-by n xs true h a = λ i j o l. go i j o l
    where
      go : (i j : ℕ) → i ≤ j → j < length (n ∷ xs) → get_or (n ∷ xs) i 0 ≤ get_or (n ∷ xs) j 0
      go zero zero o l = omega arith
      go zero (suc j) o l = let w = h j (omega (arith, l)) in omega (arith, w)
      go (suc i) zero o l = absurd (omega (arith, o))
      go (suc i) (suc j) o l = a i j (omega (arith, o)) (omega (arith, l))

  pub ascends : (n : ℕ) (ts : List First) → Ascends (places_of f n ts)
  ascends n [] = λ i j o l. absurd (omega (arith, l))
  ascends n (t ∷ ts) = ascends-by n (places_of f (suc n) ts) (same_first f t) (least (suc n) ts) (ascends (suc n) ts)

  -- a place with the top is in the list
  pub is_in : (n : ℕ) (ts : List First) (k : ℕ) (t : First) → slice_get ts k ≡ Some t → same_first f t ≡ true → IsIn (n + k) (places_of f n ts)
  is_in n [] k t e s = absurd (cc)
  is_in n (u ∷ ts) zero t e s =
      let b : same_first f u ≡ true = ap (same_first f) (some_is u t e) ∙ s in
      let z : n ≡ n + 0 = omega arith in
      subst (λ d. IsIn (n + 0) (cond d (n ∷ places_of f (suc n) ts) (places_of f (suc n) ts))) (sym b) (inl z)
  is_in n (u ∷ ts) (suc k) t e s =
      let z : suc n + k ≡ n + suc k = omega arith in
      in_later (same_first f u) (subst (λ m. IsIn m (places_of f (suc n) ts)) z (is_in (suc n) ts k t e s))
    where
      in_later : (b : Bool) → IsIn (n + suc k) (places_of f (suc n) ts) → IsIn (n + suc k) (cond b (n ∷ places_of f (suc n) ts) (places_of f (suc n) ts))
      in_later true i = inr i
      in_later false i = i

  -- and each of the list has the top
  has_top-by : (n m : ℕ) (u : First) (ts : List First) (b : Bool) → same_first f u ≡ b → IsIn m (cond b (n ∷ places_of f (suc n) ts) (places_of f (suc n) ts))
      → (IsIn m (places_of f (suc n) ts) → (k : ℕ) × (t : First) × (m ≡ suc n + k) × (slice_get ts k ≡ Some t) × (same_first f t ≡ true))
      → (k : ℕ) × (t : First) × (m ≡ n + k) × (slice_get (u ∷ ts) k ≡ Some t) × (same_first f t ≡ true)
  has_top-by n m u ts true e (inl i) r = (0, u, omega (arith, i), refl, e)
  has_top-by n m u ts true e (inr i) r = let q = r i in (suc q.0, q.1, (let w = q.2 in omega (arith, w)), q.3, q.4)
  has_top-by n m u ts false e i r = let q = r i in (suc q.0, q.1, (let w = q.2 in omega (arith, w)), q.3, q.4)

  pub has_top : (n : ℕ) (ts : List First) (m : ℕ) → IsIn m (places_of f n ts) → (k : ℕ) × (t : First) × (m ≡ n + k) × (slice_get ts k ≡ Some t) × (same_first f t ≡ true)
  has_top n [] m i = absurd i
  has_top n (u ∷ ts) m i = has_top-by n m u ts (same_first f u) refl i (has_top (suc n) ts m)

  cond-push : (b : Bool) (x : ℕ) (xs ys : List ℕ) → cond b (x ∷ (xs ++ ys)) (xs ++ ys) ≡ cond b (x ∷ xs) xs ++ ys
  cond-push true x xs ys = refl
  cond-push false x xs ys = refl

  pub places-push : (n : ℕ) (ts : List First) (t : First) → places_of f n (ts ++ t ∷ []) ≡ places_of f n ts ++ cond (same_first f t) ((n + length ts) ∷ []) []
  places-push n [] t = let e : n ≡ n + 0 = omega arith in ap (λ k. cond (same_first f t) (k ∷ []) []) e
  places-push n (u ∷ ts) t =
      let e : suc n + length ts ≡ n + suc (length ts) = omega arith in
      ap (λ ns. cond (same_first f u) (n ∷ ns) ns) (places-push (suc n) ts t ∙ ap (λ k. places_of f (suc n) ts ++ cond (same_first f t) (k ∷ []) []) e)
      ∙ cond-push (same_first f u) n (places_of f (suc n) ts) (cond (same_first f t) ((n + suc (length ts)) ∷ []) [])

-- which tops may match: the same one, and a variable
may_be-same : (f t : First) → same_first f t ≡ true → may_be f t ≡ true
may_be-same (Int n) (Int m) h = h
may_be-same (Int n) (Atom b) h = h
may_be-same (Int n) (Functor g l) h = h
may_be-same (Int n) Free h = refl
may_be-same (Atom a) (Int m) h = h
may_be-same (Atom a) (Atom b) h = h
may_be-same (Atom a) (Functor g l) h = h
may_be-same (Atom a) Free h = refl
may_be-same (Functor f k) (Int m) h = h
may_be-same (Functor f k) (Atom b) h = h
may_be-same (Functor f k) (Functor g l) h = h
may_be-same (Functor f k) Free h = refl
may_be-same Free t h = refl

may_be-free : (f t : First) → same_first Free t ≡ true → may_be f t ≡ true
may_be-free (Int n) Free h = refl
may_be-free (Atom a) Free h = refl
may_be-free (Functor f k) Free h = refl
may_be-free Free t h = refl
may_be-free f (Int m) h = absurd (cc)
may_be-free f (Atom b) h = absurd (cc)
may_be-free f (Functor g l) h = absurd (cc)

may_be-either : (f t : First) → same_first f Free ≡ false → may_be f t ≡ true → (same_first f t ≡ true) ⊎ (same_first Free t ≡ true)
may_be-either (Int n) (Int m) a h = inl h
may_be-either (Int n) (Atom b) a h = inl h
may_be-either (Int n) (Functor g l) a h = inl h
may_be-either (Int n) Free a h = inr refl
may_be-either (Atom c) (Int m) a h = inl h
may_be-either (Atom c) (Atom b) a h = inl h
may_be-either (Atom c) (Functor g l) a h = inl h
may_be-either (Atom c) Free a h = inr refl
may_be-either (Functor f k) (Int m) a h = inl h
may_be-either (Functor f k) (Atom b) a h = inl h
may_be-either (Functor f k) (Functor g l) a h = inl h
may_be-either (Functor f k) Free a h = inr refl
may_be-either Free t a h = absurd (cc)

-- the answer of both lists
module _ (f : First) (ts : List First) (from : ℕ) (a : same_first f Free ≡ false) where
  one_of : (k : ℕ) (t : First) → slice_get ts k ≡ Some t → may_be f t ≡ true → IsIn k (places_of f 0 ts) ⊎ IsIn k (places_of Free 0 ts)
  one_of k t e m =
      let z : 0 + k ≡ k = omega arith in
      elim (may_be-either f t a m) [
        | inl s ↦ inl (subst (λ j. IsIn j (places_of f 0 ts)) z (is_in f 0 ts k t e s))
        | inr s ↦ inr (subst (λ j. IsIn j (places_of Free 0 ts)) z (is_in Free 0 ts k t e s))
      ]

  abbrev Has : ℕ → Type 0
  Has k = (t : First) × (slice_get ts k ≡ Some t) × (may_be f t ≡ true)

  has_it : (k : ℕ) → IsIn k (places_of f 0 ts) ⊎ IsIn k (places_of Free 0 ts) → Has k
  has_it k (inl i) = let r = has_top f 0 ts k i in let z : r.0 ≡ k = (let w = r.2 in omega (arith, w)) in (r.1, ap (slice_get ts) (sym z) ∙ r.3, may_be-same f r.1 r.4)
  has_it k (inr i) = let r = has_top Free 0 ts k i in let z : r.0 ≡ k = (let w = r.2 in omega (arith, w)) in (r.1, ap (slice_get ts) (sym z) ∙ r.3, may_be-free f r.1 r.4)

  not_true : (b : Bool) → (b ≡ true → ⊥) → b ≡ false
  not_true true h = absurd (h refl)
  not_true false h = refl

  pub both_lists : (o : Option ℕ) → MatchOption o ((k : ℕ) → IsIn k (places_of f 0 ts) ⊎ IsIn k (places_of Free 0 ts) → k < from) (λ n. (from ≤ n) × (IsIn n (places_of f 0 ts) ⊎ IsIn n (places_of Free 0 ts)) × ((k : ℕ) → IsIn k (places_of f 0 ts) ⊎ IsIn k (places_of Free 0 ts) → from ≤ k → n ≤ k))
      → MatchOption o (AreOut f ts from (length ts)) (IsNextTop f ts from)
  both_lists None h = λ k t l u e. not_true (may_be f t) (λ m. let w = h k (one_of k t e m) in absurd (omega (arith, w, l)))
  both_lists (Some n) h =
      let r = has_it n h.1 in
      record {
        later = h.0;
        within = get_within ts n r.0 r.1;
        matches = λ t e. ap (may_be f) (some_is t r.0 (sym e ∙ r.1)) ∙ r.2;
        passed = λ k t l u e. not_true (may_be f t) (λ m. let w = h.2 k (one_of k t e m) l in absurd (omega (arith, w, u)));
      }

place_or : (vs ws : List First) (f : First) → (place same_first (vs ++ ws) f ≡ place same_first vs f) ⊎ ((length vs ≤ place same_first (vs ++ ws) f) × (place same_first vs f ≡ length vs))
place_or [] ws f = inr (omega arith, refl)
place_or (x ∷ vs) ws f = elim (same_first x f) as (λ b. (cond b 0 (suc (place same_first (vs ++ ws) f)) ≡ cond b 0 (suc (place same_first vs f))) ⊎ ((suc (length vs) ≤ cond b 0 (suc (place same_first (vs ++ ws) f))) × (cond b 0 (suc (place same_first vs f)) ≡ suc (length vs)))) [
  | true ↦ inl refl
  | false ↦ elim (place_or vs ws f) [ inl e ↦ inl (ap suc e) | inr p ↦ inr ((let w = p.0 in omega (arith, w)), ap suc p.1) ]
]

place_eq-more : (x : First) (vs : List First) (f t : First) → (has same_first vs t ≡ true → place same_first vs f ≡ place same_first vs t → f ≡ t) → (a b : Bool) → same_first x t ≡ a → same_first x f ≡ b
    → (a || has same_first vs t) ≡ true → cond b 0 (suc (place same_first vs f)) ≡ cond a 0 (suc (place same_first vs t)) → f ≡ t
place_eq-more x vs f t r true true d e h p = sym (same_first-is x f e) ∙ same_first-is x t d
place_eq-more x vs f t r true false d e h p = absurd (omega (arith, p))
place_eq-more x vs f t r false true d e h p = absurd (omega (arith, p))
place_eq-more x vs f t r false false d e h p = r h (omega (arith, p))

place_eq : (vs : List First) (f t : First) → has same_first vs t ≡ true → place same_first vs f ≡ place same_first vs t → f ≡ t
place_eq [] f t h p = absurd (cc)
place_eq (x ∷ vs) f t h p = place_eq-more x vs f t (place_eq vs f t) (same_first x t) (same_first x f) refl refl h p

place-within : (vs : List First) (t : First) → has same_first vs t ≡ true → place same_first vs t < length vs
place-within [] t h = absurd (cc)
place-within (x ∷ vs) t h = elim (same_first x t) as (λ b. (b || has same_first vs t) ≡ true → cond b 0 (suc (place same_first vs t)) < suc (length vs)) [ true ↦ λ h. omega arith | false ↦ λ h. let r = place-within vs t h in omega arith ] h

-- one more place in the list of its top
module _ (keys new : List First) (lists room : List (List ℕ)) (ts : List First) (t : First) (at : ℕ)
    (h : IsIndex keys lists ts) (l : length lists ≤ length room) (r : (n : ℕ) → get_or room n [] ≡ get_or lists n [])
    (e : new ≡ cond (list_any (λ j. same_first t j) keys) keys (keys ++ t ∷ [])) (a : at ≡ position_or_len (λ j. same_first t j) keys) (w : length keys < length room) where
  new_is : new ≡ firsts same_first keys (t ∷ [])
  new_is = sym (map_same new) ∙ taken same_first same_first-IsSame (λ k. k) keys new t e ∙ ap (λ ks. firsts same_first ks (t ∷ [])) (map_same keys)

  at_is : at ≡ place same_first new t
  at_is = place_now same_first same_first-IsSame (λ k. k) keys new t at e (a ∙ position_place same_first same_first-IsSame (λ k. k) keys t) ∙ ap (λ ks. place same_first ks t) (map_same new)

  more : (ws : List First) × (new ≡ keys ++ ws) × (length ws ≤ 1)
  more = go (has same_first keys t) new_is
    where
      go : (b : Bool) → new ≡ cond b keys (keys ++ t ∷ []) → (ws : List First) × (new ≡ keys ++ ws) × (length ws ≤ 1)
      go true e = ([], e ∙ sym (append-nil keys), omega arith)
      go false e = (t ∷ [], e, omega arith)

  longer : (length keys ≤ length new) × (length new ≤ length keys + 1)
  longer = let n : length new ≡ length keys + length more.0 = ap length more.1 ∙ length-append keys more.0 in let m = more.2 in (omega (arith, n), omega (arith, n, m))

  there : has same_first new t ≡ true
  there = ap (λ ks. has same_first ks t) new_is ∙ has-all same_first same_first-IsSame keys (t ∷ []) t (inl refl)

  pub at_within : at < length room
  at_within = let p = place-within new t there in let q = longer.1 in omega (arith, at_is, p, q, w)

  kept : (f : First) → get_or room (place same_first new f) [] ≡ places_of f 0 ts
  kept f = elim (place_or keys more.0 f) [
    | inl p ↦ ap (λ ks. get_or room (place same_first ks f) []) more.1 ∙ ap (λ n. get_or room n []) p ∙ r (place same_first keys f) ∙ h.listed f
    | inr p ↦
        ap (λ ks. get_or room (place same_first ks f) []) more.1 ∙ r (place same_first (keys ++ more.0) f) ∙ h.others (place same_first (keys ++ more.0) f) p.0
        ∙ sym (h.others (length keys) (omega arith)) ∙ ap (λ n. get_or lists n []) (sym p.1) ∙ h.listed f
  ]

  -- the key is taken in, and no more
  pub keyed : IsIndex new room ts
  keyed = record {
    enough = (let q = longer.1 in omega (arith, q, w));
    listed = kept;
    others = λ n m. r n ∙ h.others n (let q = longer.0 in omega (arith, q, m));
  }

  -- and the place
  module _ (k : ℕ) (xs : List ℕ) (c : length ts ≡ k) (x : xs ≡ get_or room at [] ++ k ∷ []) where
    written : (f : First) (b : Bool) → same_first f t ≡ b → get_or (set room at xs) (place same_first new f) [] ≡ places_of f 0 (ts ++ t ∷ [])
    written f true s =
        let z : k ≡ 0 + length ts = omega (arith, c) in
        let p : place same_first new f ≡ at = ap (place same_first new) (same_first-is f t s) ∙ sym at_is in
        ap (λ n. get_or (set room at xs) n []) p ∙ get_or-set_same room at xs [] at_within
        ∙ x ∙ ap (λ n. get_or room n [] ++ k ∷ []) (sym p) ∙ ap (λ ys. ys ++ k ∷ []) (kept f) ∙ ap (λ n. places_of f 0 ts ++ n ∷ []) z
        ∙ ap (λ b. places_of f 0 ts ++ cond b ((0 + length ts) ∷ []) []) (sym s) ∙ sym (places-push f 0 ts t)
    written f false s =
        let apart : place same_first new f ≢ at = λ p. true≢false (sym (ap (λ g. same_first g t) (place_eq new f t there (p ∙ at_is)) ∙ same_first-itself t) ∙ s) in
        get_or-set_other room at (place same_first new f) xs [] apart ∙ kept f ∙ sym (append-nil (places_of f 0 ts))
        ∙ ap (λ b. places_of f 0 ts ++ cond b ((0 + length ts) ∷ []) []) (sym s) ∙ sym (places-push f 0 ts t)

    pub noted : IsIndex new (set room at xs) (ts ++ t ∷ [])
    noted = record {
      enough = (let q = keyed.enough in omega (arith, q, length-set room at xs));
      listed = λ f. written f (same_first f t) refl;
      others = λ n m.
          let p = place-within new t there in
          let apart : n ≢ at = λ e. absurd (omega (arith, e, at_is, p, m)) in
          get_or-set_other room at n xs [] apart ∙ keyed.others n m;
    }

-- a place is small where the tops are few
pub small : (f : First) (ts : List First) (from : ℕ) (A : Type 0) (o : Option ℕ) → length ts < 4294967296 → MatchOption o A (IsNextTop f ts from) → IfSome o (λ k. k + 1 < 4294967296)
small f ts from A None l h = tt
small f ts from A (Some k) l h = let w = h.within in omega (arith, w, l)

-- the tops before were looked at
pub from_later : (f : First) (ts : List First) (a b : ℕ) (o : Option ℕ) → a ≤ b → AreOut f ts a b → MatchOption o (AreOut f ts b (length ts)) (IsNextTop f ts b) → MatchOption o (AreOut f ts a (length ts)) (IsNextTop f ts a)
from_later f ts a b None l h k = λ n t u v e. elim (cases_within n b) [ inl w ↦ h n t u w e | inr w ↦ k n t w v e ]
from_later f ts a b (Some m) l h k = record {
  later = (let w = k.later in omega (arith, w, l));
  within = k.within;
  matches = k.matches;
  passed = λ n t u v e. elim (cases_within n b) [ inl w ↦ h n t u w e | inr w ↦ k.passed n t w v e ];
}

pub at_below : (n m k : ℕ) (b : Bool) → n < m → m ≡ k + cond b 1 0 → n ≤ k
at_below n m k true l e = omega (arith, l, e)
at_below n m k false l e = omega (arith, l, e)

pub on_err : {T E : Type 0} {P : Type 0} (r : Result T E) → P → OnErr r P
on_err (Ok x) p = tt
on_err (Err e) p = p

-- what a list holds, among the lists
pub item_at : (vs : List (Vec ℕ Global)) (n : ℕ) (v : Vec ℕ Global) → n < length vs → v ≡ get_or vs n v → v.items ≡ get_or (lists_of vs) n []
item_at vs n v l e = ap (λ w. w.items) e ∙ sym (get_or-map (λ w. w.items) vs n v [] l)

pub lists-set : (vs : List (Vec ℕ Global)) (n : ℕ) (v : Vec ℕ Global) → lists_of (set vs n v) ≡ set (lists_of vs) n v.items
lists-set vs n v = map-set (λ w. w.items) vs n v
