-- Intervals by their places.
use Rattle.std.proofs.Common.{◌≡◌, ℕ, ℤ, zero, suc, pos, ◌+◌, ◌+ℤ◌, ◌≤ℤ◌, ◌<ℤ◌, ◌<◌, ◌≤◌, inl, inr, List, [], ◌∷◌, ap, sym, ◌∙◌, subst, arith, length, get_or, to_z, of_z, w64}
use Rattle.std.specs.Prelude.{int_le}
use Rattle.std.specs.Bool.{Decides}
use Rattle.std.specs.List.{AllWithin}
use Rattle.std.proofs.lemmas.Bool.Decides.{Decides-at, Decides-like}
use Rattle.std.proofs.lemmas.Int.{ints}
use Rattle.std.proofs.lemmas.List.{get_or_default}
use Rattle.pp_domain.specs.Intervals.{Lies, IsApart, IsDomain, count}
use Rattle.pp_algebra.specs.Members.{IsInteger}
use Rattle.pp_domain.proofs.Canonical.{lies_above, lies_rest, apart_room}
use Rattle.pp_domain.proofs.Words.{word_is, Decides-int_le}

pub record IsWithin (low high : ℤ) (p : ℤ × ℤ) : Type 0 where
  pub above : low <ℤ p.0
  pub upward : p.0 ≤ℤ p.1
  pub below : p.1 <ℤ high

pub within : (ps : List (ℤ × ℤ)) (low high : ℤ) (k : ℕ) (d : ℤ × ℤ) → IsApart low ps high → k < length ps → IsWithin low high (get_or ps k d)
within [] low high k d a h = absurd (omega arith)
within (p ∷ ps) low high zero d a h = let r = apart_room ps (p.1 +ℤ pos 1) high a.2 in record { above = a.0; upward = a.1; below = omega (arith, ints) }
within (p ∷ ps) low high (suc k) d a h =
    let w = within ps (p.1 +ℤ pos 1) high k d a.2 (omega arith) in
    record { above = omega (arith, ints, w.above); upward = w.upward; below = w.below }

pub ends_ascend : (ps : List (ℤ × ℤ)) (low high : ℤ) (i j : ℕ) (d : ℤ × ℤ) → IsApart low ps high → i ≤ j → j < length ps → (get_or ps i d).1 ≤ℤ (get_or ps j d).1
ends_ascend [] low high i j d a h k = absurd (omega arith)
ends_ascend (p ∷ ps) low high zero zero d a h k = omega (arith, ints)
ends_ascend (p ∷ ps) low high zero (suc j) d a h k = let w = within ps (p.1 +ℤ pos 1) high j d a.2 (omega arith) in omega (arith, ints, w.above, w.upward)
ends_ascend (p ∷ ps) low high (suc i) zero d a h k = absurd (omega arith)
ends_ascend (p ∷ ps) low high (suc i) (suc j) d a h k = ends_ascend ps (p.1 +ℤ pos 1) high i j d a.2 (omega arith) (omega arith)

pub end_word : (ps : List (ℤ × ℤ)) (k : ℕ) (d : ℤ × ℤ) → IsDomain ps → k < length ps → to_z w64 (of_z w64 (get_or ps k d).1) ≡ (get_or ps k d).1
end_word ps k d i h = let w = within ps _ _ k d i.apart h in word_is (get_or ps k d).1 (omega (arith, ints, w.above, w.upward)) w.below

pub begin_word : (ps : List (ℤ × ℤ)) (k : ℕ) (d : ℤ × ℤ) → IsDomain ps → k < length ps → to_z w64 (of_z w64 (get_or ps k d).0) ≡ (get_or ps k d).0
begin_word ps k d i h = let w = within ps _ _ k d i.apart h in word_is (get_or ps k d).0 w.above (omega (arith, ints, w.below, w.upward))

shift_before : (p : ℤ × ℤ) (ps : List (ℤ × ℤ)) (n : ℕ) (P : ℤ × ℤ → Type 0) → AllWithin P (p ∷ ps) 0 (suc n) → AllWithin P ps 0 n
shift_before p ps n P h k d l m = h (suc k) d (omega arith) (omega arith)

shift_after : (p : ℤ × ℤ) (ps : List (ℤ × ℤ)) (n : ℕ) (P : ℤ × ℤ → Type 0) → AllWithin P (p ∷ ps) (suc n) (length (p ∷ ps)) → AllWithin P ps n (length ps)
shift_after p ps n P h k d l m = h (suc k) d (omega arith) (omega arith)

-- where all intervals end below v, it lies in none
pub none_reaches : (ps : List (ℤ × ℤ)) (v : ℤ) → AllWithin (λ p. p.1 <ℤ v) ps 0 (length ps) → Lies ps v → ⊥
none_reaches [] v h l = l
none_reaches (p ∷ ps) v h (inl l) = let e = h 0 p (omega arith) (omega arith) in omega (arith, ints, e)
none_reaches (p ∷ ps) v h (inr l) = none_reaches ps v (shift_before p ps (length ps) (λ p. p.1 <ℤ v) h) l

-- v lies in the intervals exactly where it lies in the first that reaches it
pub first_that_reaches : (ps : List (ℤ × ℤ)) (v low high : ℤ) (n : ℕ) (d : ℤ × ℤ) → IsApart low ps high → n < length ps
    → AllWithin (λ p. p.1 <ℤ v) ps 0 n → AllWithin (λ p. v ≤ℤ p.1) ps n (length ps) → (Lies ps v → (get_or ps n d).0 ≤ℤ v) × ((get_or ps n d).0 ≤ℤ v → Lies ps v)
first_that_reaches [] v low high n d a l b f = absurd (omega arith)
first_that_reaches (p ∷ ps) v low high zero d a l b f = (begins, λ h. inl (h, f 0 p (omega arith) (omega arith)))
  where
    begins : Lies (p ∷ ps) v → p.0 ≤ℤ v
    begins (inl i) = i.0
    begins (inr i) = let r = lies_above ps (p.1 +ℤ pos 1) high v a.2 i in omega (arith, ints)
first_that_reaches (p ∷ ps) v low high (suc n) d a l b f =
    let r = first_that_reaches ps v (p.1 +ℤ pos 1) high n d a.2 (omega arith) (shift_before p ps n (λ p. p.1 <ℤ v) b) (shift_after p ps n (λ p. v ≤ℤ p.1) f) in
    let e = b 0 p (omega arith) (omega arith) in
    (λ i. r.0 (lies_rest p ps v e i), λ i. inr (r.1 i))

-- where the interval at place n ends below v, so do all before it
pub before_more : (ps : List (ℤ × ℤ)) (v : ℤ) (n m : ℕ) (d : ℤ × ℤ) → IsDomain ps → n < length ps → m ≡ n + 1 → (get_or ps n d).1 <ℤ v → AllWithin (λ p. p.1 <ℤ v) ps 0 m
before_more ps v n m d a h same e k d' l less =
    let u = ends_ascend ps _ _ k n d' a.apart (omega arith) h in
    let r : get_or ps n d' ≡ get_or ps n d = get_or_default ps n d' d h in
    let r1 = ap (λ (z : ℤ × ℤ). z.1) r in
    omega (arith, ints, u, e, r1)

-- where it ends at v or above, so do all after it
pub after_less : (ps : List (ℤ × ℤ)) (v : ℤ) (n : ℕ) (d : ℤ × ℤ) → IsDomain ps → n < length ps → v ≤ℤ (get_or ps n d).1 → AllWithin (λ p. v ≤ℤ p.1) ps n (length ps)
after_less ps v n d a h e k d' l less =
    let u = ends_ascend ps _ _ n k d' a.apart l less in
    let r : get_or ps n d' ≡ get_or ps n d = get_or_default ps n d' d h in
    let r1 = ap (λ (z : ℤ × ℤ). z.1) r in
    omega (arith, ints, u, e, r1)

-- what the code's test of the first interval that reaches w tells of v, which w is the word of
pub place_tells : (ps : List (ℤ × ℤ)) (v w : ℤ) (n : ℕ) (d : ℤ × ℤ) → w ≡ v → IsDomain ps → n < length ps
    → AllWithin (λ p. p.1 <ℤ w) ps 0 n → AllWithin (λ p. w ≤ℤ p.1) ps n (length ps) → Decides (int_le (to_z w64 (of_z w64 (get_or ps n d).0)) w) (Lies ps v)
place_tells ps v w n d e a h before after =
    let r = first_that_reaches ps w _ _ n d a.apart h before after in
    let word = begin_word ps n d a h in
    let t : Decides (int_le (to_z w64 (of_z w64 (get_or ps n d).0)) w) (Lies ps w) = Decides-at _ _ (ap (λ z. int_le z w) word) (Decides-like _ r.1 r.0 (Decides-int_le (get_or ps n d).0 w)) in
    let F : ℤ → Type 0 = λ z. Decides (int_le (to_z w64 (of_z w64 (get_or ps n d).0)) w) (Lies ps z) in
    subst F e t

pub past_all : (ps : List (ℤ × ℤ)) (v w : ℤ) (n : ℕ) → w ≡ v → length ps ≤ n → n ≤ length ps → AllWithin (λ p. p.1 <ℤ w) ps 0 n → Lies ps v → ⊥
past_all ps v w n e h k before l =
    let all : n ≡ length ps = omega arith in
    let F : ℕ → Type 0 = λ m. AllWithin (λ p. p.1 <ℤ w) ps 0 m in
    none_reaches ps w (subst F all before) (subst (Lies ps) (sym e) l)

-- ---- what a read of an interval gives, by its words

pub begin_integer : (ps : List (ℤ × ℤ)) (k : ℕ) (d : ℤ × ℤ) → IsDomain ps → k < length ps → IsInteger (to_z w64 (of_z w64 (get_or ps k d).0))
begin_integer ps k d a h =
    let w = within ps _ _ k d a.apart h in
    let i : IsInteger (get_or ps k d).0 = record { at_least = omega (arith, ints, w.above); at_most = omega (arith, ints, w.below, w.upward) } in
    subst IsInteger (sym (begin_word ps k d a h)) i

pub end_integer : (ps : List (ℤ × ℤ)) (k : ℕ) (d : ℤ × ℤ) → IsDomain ps → k < length ps → IsInteger (to_z w64 (of_z w64 (get_or ps k d).1))
end_integer ps k d a h =
    let w = within ps _ _ k d a.apart h in
    let i : IsInteger (get_or ps k d).1 = record { at_least = omega (arith, ints, w.above, w.upward); at_most = omega (arith, ints, w.below) } in
    subst IsInteger (sym (end_word ps k d a h)) i

pub upward_words : (ps : List (ℤ × ℤ)) (k : ℕ) (d : ℤ × ℤ) → IsDomain ps → k < length ps → to_z w64 (of_z w64 (get_or ps k d).0) ≤ℤ to_z w64 (of_z w64 (get_or ps k d).1)
upward_words ps k d a h =
    let w = within ps _ _ k d a.apart h in
    let e = begin_word ps k d a h in
    let f = end_word ps k d a h in
    omega (arith, ints, w.upward, e, f)

pub count_words : (ps : List (ℤ × ℤ)) (k : ℕ) (d : ℤ × ℤ) → IsDomain ps → k < length ps
    → count (to_z w64 (of_z w64 (get_or ps k d).0)) (to_z w64 (of_z w64 (get_or ps k d).1)) ≡ count (get_or ps k d).0 (get_or ps k d).1
count_words ps k d a h = ap (λ z. count z (to_z w64 (of_z w64 (get_or ps k d).1))) (begin_word ps k d a h) ∙ ap (count (get_or ps k d).0) (end_word ps k d a h)
