-- The members of a domain: they ascend, they are the integers of the language in the set, and no other list is so.
use Rattle.std.proofs.Common.{◌≡◌, ℕ, ℤ, zero, suc, pos, negsuc, ◌+ℤ◌, ◌≤ℤ◌, ◌<ℤ◌, true, false, Bool, List, [], ◌∷◌, inl, inr, refl, ap, sym, ◌∙◌, subst, arith}
use Rattle.std.specs.Prelude.{cond, ◌||◌, filter, AllPairs, All, ◌↔◌}
use Rattle.std.specs.FinSet as set
use Rattle.std.specs.Cmp.{int_cmp_total}
use Rattle.std.specs.List.{list_any}
use Rattle.std.specs.Ordering.{int_cmp, int_eq}
use Rattle.std.proofs.lemmas.Bool.{cond-true, cond-false, false_from_ne_true, or_right}
use Rattle.std.proofs.lemmas.Int.{ints, by_lt_z}
use Rattle.std.proofs.lemmas.List.Elements.{All-nil, All-cons, All-weaker}
use Rattle.std.proofs.lemmas.List.Kept.{AllPairs-cons}
use Rattle.pp_algebra.specs.Rows.{Domain}
use Rattle.pp_algebra.specs.Covers.{IsIn}
use Rattle.pp_algebra.specs.Members.{integers_from, all_integers, IsInteger, members}
use Rattle.pp_algebra.proofs.Bools.{int_same, int_is}

-- ascending, from `low` on and below `high`
abbrev pub IsAscending : ℤ → List ℤ → ℤ → Type 0
IsAscending low [] high = Unit {0}
IsAscending low (n ∷ ns) high = (low ≤ℤ n) × (n <ℤ high) × IsAscending (n +ℤ pos 1) ns high

-- ascending integers of the language
abbrev pub AreIntegers : List ℤ → Type 0
AreIntegers ns = IsAscending (negsuc 999999999999) ns (pos 1000000000001)

pub ascending_range : (low high k : ℤ) (ns : List ℤ) → IsAscending low ns high → IsIn k ns → (low ≤ℤ k) × (k <ℤ high)
ascending_range low high k [] a i = absurd i
ascending_range low high k (n ∷ ns) a (inl e) = subst (λ x. (low ≤ℤ x) × (x <ℤ high)) e (a.0, a.1)
ascending_range low high k (n ∷ ns) a (inr i) = let r = ascending_range (n +ℤ pos 1) high k ns a.2 i in (omega (arith, ints, a.0, r.0), r.1)

ascending_down : (low low' high : ℤ) (ns : List ℤ) → low' ≤ℤ low → IsAscending low ns high → IsAscending low' ns high
ascending_down low low' high [] l a = tt
ascending_down low low' high (n ∷ ns) l a = (omega (arith, ints, a.0), a.1, a.2)

all_from : (low high : ℤ) (ns : List ℤ) → IsAscending low ns high → All (λ k. low ≤ℤ k) ns
all_from low high [] a = All-nil (λ k. low ≤ℤ k)
all_from low high (n ∷ ns) a = All-cons (λ k. low ≤ℤ k) n ns a.0 (All-weaker (λ k. (n +ℤ pos 1) ≤ℤ k) (λ k. low ≤ℤ k) (λ k l. omega (arith, ints, a.0, l)) ns (all_from (n +ℤ pos 1) high ns a.2))

pub ascending_pairs : (low high : ℤ) (ns : List ℤ) → IsAscending low ns high → AllPairs (λ n m. n <ℤ m) ns
ascending_pairs low high [] a = λ i j d l m. absurd (omega (arith, m))
ascending_pairs low high (n ∷ ns) a =
    AllPairs-cons (λ n m. n <ℤ m) n ns
    (All-weaker (λ k. (n +ℤ pos 1) ≤ℤ k) (λ k. n <ℤ k) (λ k l. omega (arith, ints, l)) ns (all_from (n +ℤ pos 1) high ns a.2))
    (ascending_pairs (n +ℤ pos 1) high ns a.2)

module _ (p : ℤ → Bool) where
  -- the list of the integers from `low` on and below `high` that pass
  filter_is : (n : ℕ) (low high : ℤ) (ns : List ℤ) → high ≡ (low +ℤ pos n) → IsAscending low ns high → ((k : ℤ) → low ≤ℤ k → k <ℤ high → (p k ≡ true) ↔ IsIn k ns) → filter p (integers_from low n) ≡ ns
  unfolding integers_from
  filter_is zero low high [] e a h = refl
  filter_is zero low high (x ∷ xs) e a h = absurd (omega (arith, ints, a.0, a.1))
  filter_is (suc n) low high [] e a h =
      cond-false (p low) _ _ (false_from_ne_true (p low) (λ t. (h low (omega (arith, ints)) (omega (arith, ints))).0 t))
      ∙ filter_is n (low +ℤ pos 1) high [] (omega (arith, ints)) tt (λ k l m. h k (omega (arith, ints)) m)
  filter_is (suc n) low high (x ∷ xs) e a h = by_lt_z low x
      (λ l. cond-false (p low) _ _ (false_from_ne_true (p low) (λ t. elim ((h low (omega (arith, ints)) (omega (arith, ints))).0 t) [
        | inl f ↦ omega (arith, ints)
        | inr i ↦ (let r = ascending_range (x +ℤ pos 1) high low xs a.2 i in omega (arith, ints, r.0))
      ])) ∙ filter_is n (low +ℤ pos 1) high (x ∷ xs) (omega (arith, ints)) (omega (arith, ints), a.1, a.2) (λ k l m. h k (omega (arith, ints)) m))
      (λ g. let f : x ≡ low = omega (arith, ints, a.0) in
      cond-true (p low) _ _ ((h low (omega (arith, ints)) (omega (arith, ints))).1 (inl f))
      ∙ ap (λ ys. low ∷ ys) (filter_is n (low +ℤ pos 1) high xs (omega (arith, ints)) (subst (λ y. IsAscending (y +ℤ pos 1) xs high) f a.2)
      (λ k l m. (
        (λ t. elim ((h k (omega (arith, ints)) m).0 t) [ inl j ↦ absurd (omega (arith, ints)) | inr i ↦ i ]),
        (λ i. (h k (omega (arith, ints)) m).1 (inr i)),
      )))
      ∙ ap (λ y. y ∷ xs) (sym f))

  filter-ascending : (n : ℕ) (low high : ℤ) → high ≡ (low +ℤ pos n) → IsAscending low (filter p (integers_from low n)) high
  unfolding integers_from
  filter-ascending zero low high e = tt
  filter-ascending (suc n) low high e = go (p low) (filter-ascending n (low +ℤ pos 1) high (omega (arith, ints)))
    where
      go : (b : Bool) → IsAscending (low +ℤ pos 1) (filter p (integers_from (low +ℤ pos 1) n)) high → IsAscending low (cond b (low ∷ filter p (integers_from (low +ℤ pos 1) n)) (filter p (integers_from (low +ℤ pos 1) n))) high
      go true a = (omega (arith, ints), omega (arith, ints), a)
      go false a = ascending_down (low +ℤ pos 1) low high _ (omega (arith, ints)) a

  passes : (k : ℤ) (ns : List ℤ) → IsIn k (filter p ns) → p k ≡ true
  passes k [] i = absurd i
  passes k (n ∷ ns) i = go (p n) refl (passes k ns) i
    where
      go : (b : Bool) → p n ≡ b → (IsIn k (filter p ns) → p k ≡ true) → IsIn k (cond b (n ∷ filter p ns) (filter p ns)) → p k ≡ true
      go true e later (inl f) = ap p (sym f) ∙ e
      go true e later (inr j) = later j
      go false e later j = later j

  stays : (k : ℤ) (ns : List ℤ) → p k ≡ true → IsIn k ns → IsIn k (filter p ns)
  stays k [] h i = absurd i
  stays k (n ∷ ns) h (inl f) = subst (λ b. IsIn k (cond b (n ∷ filter p ns) (filter p ns))) (sym (ap p f ∙ h)) (inl f)
  stays k (n ∷ ns) h (inr i) = go (p n) (stays k ns h i)
    where
      go : (b : Bool) → IsIn k (filter p ns) → IsIn k (cond b (n ∷ filter p ns) (filter p ns))
      go true j = inr j
      go false j = j

in_integers : (n : ℕ) (low k : ℤ) → low ≤ℤ k → k <ℤ (low +ℤ pos n) → IsIn k (integers_from low n)
unfolding integers_from
in_integers zero low k l m = absurd (omega (arith, ints))
in_integers (suc n) low k l m = by_lt_z low k (λ g. inr (in_integers n (low +ℤ pos 1) k (omega (arith, ints)) (omega (arith, ints)))) (λ g. inl (omega (arith, ints)))

-- the members are what ascends and stands exactly where the set contains it
pub members_are : (d : Domain) (ns : List ℤ) → AreIntegers ns → ((n : ℤ) → IsInteger n → (set.contains d n ≡ true) ↔ IsIn n ns) → members d ≡ ns
unfolding all_integers
members_are d ns a h = filter_is (set.contains d) 2000000000001 (negsuc 999999999999) (pos 1000000000001) ns (omega (arith, ints)) a (λ k l m. h k (record { at_least = l; at_most = omega (arith, ints) }))

pub members-integers : (d : Domain) → AreIntegers (members d)
unfolding all_integers
members-integers d = filter-ascending (set.contains d) 2000000000001 (negsuc 999999999999) (pos 1000000000001) (omega (arith, ints))

pub members-ascend : (d : Domain) → AllPairs (λ n m. n <ℤ m) (members d)
members-ascend d = ascending_pairs _ _ (members d) (members-integers d)

pub in_all : (n : ℤ) → IsInteger n → IsIn n all_integers
unfolding all_integers
in_all n h = in_integers 2000000000001 (negsuc 999999999999) n h.at_least (omega (arith, ints, h.at_most))

pub members-contained : (d : Domain) (n : ℤ) → IsIn n (members d) ↔ (IsInteger n × (set.contains d n ≡ true))
members-contained d n = (
  (λ i. let r = ascending_range (negsuc 999999999999) (pos 1000000000001) n (members d) (members-integers d) i in (record { at_least = r.0; at_most = omega (arith, ints, r.1) }, passes (set.contains d) n all_integers i)),
  (λ h. stays (set.contains d) n all_integers h.1 (in_all n h.0)),
)

any_is_in : (n : ℤ) (ns : List ℤ) → list_any (int_eq n) ns ≡ true → IsIn n ns
any_is_in n [] h = absurd (cc h)
any_is_in n (m ∷ ns) h = go (int_eq n m) refl h (any_is_in n ns)
  where
    go : (b : Bool) → int_eq n m ≡ b → (b || list_any (int_eq n) ns) ≡ true → (list_any (int_eq n) ns ≡ true → IsIn n ns) → IsIn n (m ∷ ns)
    go true e h later = inl (sym (int_is n m e))
    go false e h later = inr (later h)

in_is_any : (n : ℤ) (ns : List ℤ) → IsIn n ns → list_any (int_eq n) ns ≡ true
in_is_any n [] i = absurd i
in_is_any n (m ∷ ns) (inl e) = ap (λ b. b || list_any (int_eq n) ns) (subst (λ x. int_eq n x ≡ true) (sym e) (int_same n))
in_is_any n (m ∷ ns) (inr i) = or_right (int_eq n m) (list_any (int_eq n) ns) (in_is_any n ns i)

-- the members of a list's set are the list, if it ascends
pub members-from_list : (ns : List ℤ) → AreIntegers ns → members (set.from_list {R = int_cmp} ns) ≡ ns
members-from_list ns a = members_are (set.from_list ns) ns a (λ n h. (
  (λ t. any_is_in n ns (sym (set.contains-from_list int_cmp_total ns n) ∙ t)),
  (λ i. set.contains-from_list int_cmp_total ns n ∙ in_is_any n ns i),
))
