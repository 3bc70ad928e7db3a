-- The member at a place of an ascending list is the one with so many smaller members.
use Rattle.std.proofs.Common.{◌≡◌, ℕ, ℤ, zero, suc, pos, ◌-ℤ◌, ◌<ℤ◌, ◌≤◌, ◌⊎◌, inl, inr, true, false, Bool, List, [], ◌∷◌, refl, ap, sym, ◌∙◌, subst, arith, length, take, Option, Some, None}
use Rattle.std.specs.Prelude.{slice_get, int_lt, ◌||◌, ◌&&◌, IfSome, IsNone, ◌↔◌}
use Rattle.std.specs.FinSet as set
use Rattle.std.specs.Cmp.{int_cmp_total}
use Rattle.std.specs.Ordering.{int_eq}
use Rattle.std.specs.Bool.{Decides}
use Rattle.std.proofs.lemmas.Int.{ints}
use Rattle.std.proofs.lemmas.Bool.Decides.{same_from_decides, Decides-like, Decides-at, Decides-and, Decides-or, Decides-int_eq}
use Rattle.pp_domain.specs.Intervals.{IsDomain, integers}
use Rattle.pp_domain.specs.Sets.{set_of, IsNth}
use Rattle.pp_algebra.specs.Rows.{Domain}
use Rattle.pp_domain.proofs.Members.{one_of}
use Rattle.pp_domain.proofs.Ascending.{IsAscending, integers-ascending, one_of_above, len_ascending, len_is}
use Rattle.pp_domain.proofs.Words.{Decides-int_lt}

left_true : (a b : Bool) → a ≡ true → (a || b) ≡ true
left_true true b h = refl
left_true false b h = absurd (cc)

right_true : (a b : Bool) → b ≡ true → (a || b) ≡ true
right_true true b h = refl
right_true false b h = h

either_true : (a b : Bool) → (a || b) ≡ true → (a ≡ true) ⊎ (b ≡ true)
either_true true b h = inl refl
either_true false b h = inr h

get_one_of : (xs : List ℤ) (k : ℕ) (v : ℤ) → slice_get xs k ≡ Some v → one_of v xs ≡ true
get_one_of [] k v e = absurd (cc)
get_one_of (x ∷ xs) zero v e = left_true _ _ ((Decides-int_eq v x).1 (cc))
get_one_of (x ∷ xs) (suc k) v e = right_true (int_eq v x) _ (get_one_of xs k v e)

-- q is one of xs and less than v
abbrev IsLess : List ℤ → ℤ → ℤ → Type 0
IsLess xs v q = (one_of q xs ≡ true) × (q <ℤ v)

none_less : (low : ℤ) (x : ℤ) (xs : List ℤ) (v q : ℤ) → IsAscending low (x ∷ xs) → x ≡ v → IsLess (x ∷ xs) v q → ⊥
none_less low x xs v q a e h = let r = one_of_above (x -ℤ pos 1) q (x ∷ xs) (omega (arith, ints), a.1) h.0 in omega (arith, ints, r, h.1)

first_less : (x : ℤ) (xs : List ℤ) (v q : ℤ) → x <ℤ v → (q ≡ x) ⊎ IsLess xs v q → IsLess (x ∷ xs) v q
first_less x xs v q h (inl e) = (left_true _ _ ((Decides-int_eq q x).1 e), omega (arith, ints))
first_less x xs v q h (inr l) = (right_true (int_eq q x) _ l.0, l.1)

less_first : (x : ℤ) (xs : List ℤ) (v q : ℤ) → IsLess (x ∷ xs) v q → (q ≡ x) ⊎ IsLess xs v q
less_first x xs v q h = elim (either_true (int_eq q x) (one_of q xs) h.0) [
  | inl e ↦ inl ((Decides-int_eq q x).0 e)
  | inr m ↦ inr (m, h.1)
]

before_it : (low : ℤ) (xs : List ℤ) (k : ℕ) (v q : ℤ) → IsAscending low xs → slice_get xs k ≡ Some v → Decides (one_of q (take k xs)) (IsLess xs v q)
before_it low [] k v q a e = absurd (cc)
before_it low (x ∷ xs) zero v q a e = (λ h. absurd (cc), λ h. absurd (none_less low x xs v q a (cc) h))
before_it low (x ∷ xs) (suc k) v q a e =
    let less = one_of_above x v xs a.1 (get_one_of xs k v e) in
    Decides-like _ (first_less x xs v q less) (less_first x xs v q) (Decides-or (int_eq q x) (one_of q (take k xs)) (Decides-int_eq q x) (before_it x xs k v q a.1 e))

take-ascending : (low : ℤ) (xs : List ℤ) (k : ℕ) → IsAscending low xs → IsAscending low (take k xs)
take-ascending low xs zero a = tt
take-ascending low [] (suc k) a = tt
take-ascending low (x ∷ xs) (suc k) a = (a.0, take-ascending x xs k a.1)

length_before : (xs : List ℤ) (k : ℕ) (v : ℤ) → slice_get xs k ≡ Some v → length (take k xs) ≡ k
length_before [] k v e = absurd (cc)
length_before (x ∷ xs) zero v e = refl
length_before (x ∷ xs) (suc k) v e = ap suc (length_before xs k v e)

get_none : (xs : List ℤ) (k : ℕ) → (IsNone (slice_get xs k) → length xs ≤ k) × (length xs ≤ k → IsNone (slice_get xs k))
get_none [] k = (λ h. omega arith, λ h. refl)
get_none (x ∷ xs) zero = (λ h. absurd (cc), λ h. absurd (omega arith))
get_none (x ∷ xs) (suc k) = let r = get_none xs k in (λ h. let l = r.0 h in omega arith, λ h. r.1 (omega arith))

smaller : Domain → ℤ → Domain
smaller s v = set.retain s (λ n. int_lt n v)

smaller_is : (low : ℤ) (xs : List ℤ) (k : ℕ) (v : ℤ) → IsAscending low xs → slice_get xs k ≡ Some v → smaller (set.from_list xs) v ≡ set.from_list (take k xs)
unfolding smaller
smaller_is low xs k v a e = set.same_set int_cmp_total set.int_cmp-IsAntisymmetric _ _ (λ q.
    same_from_decides _ _
    (Decides-at _ _ (set.contains-retain (set.from_list xs) (λ n. int_lt n v) q (λ x t. ap (λ n. int_lt n v) (sym (set.int_cmp-IsAntisymmetric q x t))) ∙ ap (λ b. b && int_lt q v) (set.contains-from_list int_cmp_total xs q))
    (Decides-and (one_of q xs) (int_lt q v) (λ h. h, λ h. h) (Decides-int_lt q v)))
    (Decides-at _ _ (set.contains-from_list int_cmp_total (take k xs) q) (before_it low xs k v q a e)))

is_nth : (ps : List (ℤ × ℤ)) (k : ℕ) (v : ℤ) → IsDomain ps → slice_get (integers ps) k ≡ Some v → IsNth (set_of ps) k v
unfolding set_of smaller
is_nth ps k v d e =
    let a = integers-ascending ps _ _ d.apart in (
      set.contains-from_list int_cmp_total (integers ps) v ∙ get_one_of (integers ps) k v e,
      ap set.len (smaller_is _ (integers ps) k v a e) ∙ len_ascending _ (take k (integers ps)) (take-ascending _ (integers ps) k a) ∙ length_before (integers ps) k v e,
    )

pub nth_member : (ps : List (ℤ × ℤ)) (k : ℕ) (r : Option ℤ) → IsDomain ps → r ≡ slice_get (integers ps) k → IfSome r (IsNth (set_of ps) k)
nth_member ps k None d e = tt
nth_member ps k (Some v) d e = is_nth ps k v d (sym e)

pub nth_none : (ps : List (ℤ × ℤ)) (k : ℕ) (r : Option ℤ) → IsDomain ps → r ≡ slice_get (integers ps) k → IsNone r ↔ (set.len (set_of ps) ≤ k)
nth_none ps k r d e =
    let n = get_none (integers ps) k in
    let l = len_is ps d in
    (λ h. let m = n.0 (subst IsNone e h) in omega (arith, l, m), λ h. subst IsNone (sym e) (n.1 (omega (arith, l, h))))

listed : (xs : List ℤ) (v : ℤ) → one_of v xs ≡ true → (k : ℕ) × (slice_get xs k ≡ Some v)
listed [] v h = absurd (cc)
listed (x ∷ xs) v h = go (either_true (int_eq v x) (one_of v xs) h) (listed xs v)
  where
    go : (int_eq v x ≡ true) ⊎ (one_of v xs ≡ true) → (one_of v xs ≡ true → (k : ℕ) × (slice_get xs k ≡ Some v)) → (k : ℕ) × (slice_get (x ∷ xs) k ≡ Some v)
    go (inl e) later = (0, ap Some (sym ((Decides-int_eq v x).0 e)))
    go (inr m) later = let r = later m in (suc r.0, r.1)

listed_at : (ps : List (ℤ × ℤ)) (k : ℕ) (v : ℤ) → IsDomain ps → IsNth (set_of ps) k v → slice_get (integers ps) k ≡ Some v
unfolding set_of
listed_at ps k v d n =
    let r = listed (integers ps) v (sym (set.contains-from_list int_cmp_total (integers ps) v) ∙ n.0) in
    let m = is_nth ps r.0 v d r.1 in
    ap (slice_get (integers ps)) (sym n.1 ∙ m.1) ∙ r.1

pub places_agree : (ps : List (ℤ × ℤ)) (k : ℕ) (v : ℤ) → IsDomain ps → IsNth (set_of ps) k v ↔ (slice_get (integers ps) k ≡ Some v)
places_agree ps k v d = (listed_at ps k v d, is_nth ps k v d)
