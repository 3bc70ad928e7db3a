-- The integers of intervals as an ascending list, and how many there are.
use Rattle.std.proofs.Common.{◌≡◌, ℕ, ℤ, zero, suc, pos, ◌+◌, ◌-◌, ◌+ℤ◌, ◌-ℤ◌, ◌≤ℤ◌, ◌<ℤ◌, ◌<◌, ◌≤◌, true, false, Bool, List, [], ◌∷◌, ◌++◌, refl, ap, ◌∙◌, subst, arith, length, drop, get_or, cond, length-append, Some, None}
use Rattle.std.specs.Prelude.{slice_get, ◌||◌}
use Rattle.std.specs.FinSet as set
use Rattle.std.specs.Cmp.{int_cmp_total}
use Rattle.std.specs.Ordering.{int_cmp, int_eq}
use Rattle.std.proofs.lemmas.Int.{ints}
use Rattle.std.proofs.lemmas.List.{at_drop_more, at_drop_all}
use Rattle.std.proofs.lemmas.Bool.Decides.{Decides-int_eq}
use Rattle.pp_domain.specs.Intervals.{IsApart, IsDomain, count, integers}
use Rattle.pp_algebra.specs.Members.{integers_from}
use Rattle.pp_domain.specs.Sets.{set_of}
use Rattle.pp_domain.proofs.Members.{count_is, one_of}

-- ---- lists of integers that ascend

-- all of xs are above low, ascending
abbrev pub IsAscending : ℤ → List ℤ → Type 0
IsAscending low [] = Unit {0}
IsAscending low (x ∷ xs) = (low <ℤ x) × IsAscending x xs

ascending_down : (low below : ℤ) (xs : List ℤ) → below ≤ℤ low → IsAscending low xs → IsAscending below xs
ascending_down low below [] h a = tt
ascending_down low below (x ∷ xs) h a = (omega (arith, ints, a.0), a.1)

run-ascending : (low : ℤ) (n : ℕ) (end : ℤ) (ys : List ℤ) → (low +ℤ pos n) ≤ℤ (end +ℤ pos 1) → IsAscending end ys → IsAscending (low -ℤ pos 1) (integers_from low n ++ ys)
unfolding integers_from
run-ascending low zero end ys h a = ascending_down end (low -ℤ pos 1) ys (omega (arith, ints)) a
run-ascending low (suc n) end ys h a =
    let r = run-ascending (low +ℤ pos 1) n end ys (omega (arith, ints)) a in
    let e : ((low +ℤ pos 1) -ℤ pos 1) ≡ low = omega (arith, ints) in
    let F : ℤ → Type 0 = λ z. IsAscending z (integers_from (low +ℤ pos 1) n ++ ys) in
    (omega (arith, ints), subst F e r)

length-run : (low : ℤ) (n : ℕ) → length (integers_from low n) ≡ n
unfolding integers_from
length-run low zero = refl
length-run low (suc n) = ap suc (length-run (low +ℤ pos 1) n)

pub integers-ascending : (ps : List (ℤ × ℤ)) (low high : ℤ) → IsApart low ps high → IsAscending low (integers ps)
unfolding integers
integers-ascending [] low high a = tt
integers-ascending (p ∷ ps) low high a =
    let e = count_is p.0 p.1 a.1 in
    let rest = ascending_down (p.1 +ℤ pos 1) p.1 (integers ps) (omega (arith, ints)) (integers-ascending ps (p.1 +ℤ pos 1) high a.2) in
    ascending_down (p.0 -ℤ pos 1) low _ (omega (arith, ints)) (run-ascending p.0 (count p.0 p.1) p.1 (integers ps) (omega (arith, ints, e)) rest)

pub one_of_above : (low v : ℤ) (xs : List ℤ) → IsAscending low xs → one_of v xs ≡ true → low <ℤ v
one_of_above low v [] a h = absurd (cc)
one_of_above low v (x ∷ xs) a h = go (int_eq v x) refl h (one_of_above x v xs a.1)
  where
    go : (b : Bool) → int_eq v x ≡ b → (b || one_of v xs) ≡ true → (one_of v xs ≡ true → x <ℤ v) → low <ℤ v
    go true e t later = let s = (Decides-int_eq v x).0 e in omega (arith, ints, a.0)
    go false e t later = let r = later t in omega (arith, ints, a.0)

not_before : (x : ℤ) (xs : List ℤ) → IsAscending x xs → one_of x xs ≡ false
not_before x xs a = go (one_of x xs) refl
  where
    go : (b : Bool) → one_of x xs ≡ b → b ≡ false
    go true e = absurd (let r = one_of_above x x xs a e in omega (arith, ints))
    go false e = refl

pub len_ascending : (low : ℤ) (xs : List ℤ) → IsAscending low xs → set.len {R = int_cmp} (set.from_list xs) ≡ length xs
len_ascending low [] a = set.len-empty int_cmp
len_ascending low (x ∷ xs) a =
    let new : set.contains {R = int_cmp} (set.from_list xs) x ≡ false = set.contains-from_list int_cmp_total xs x ∙ not_before x xs a.1 in
    set.len-insert int_cmp_total (set.from_list xs) x
    ∙ ap (λ b. cond b (set.len {R = int_cmp} (set.from_list xs)) (set.len {R = int_cmp} (set.from_list xs) + 1)) new
    ∙ ap (λ n. n + 1) (len_ascending x xs a.1)
    ∙ omega arith

-- a domain's set has as many members as its intervals have integers
pub len_is : (ps : List (ℤ × ℤ)) → IsDomain ps → set.len (set_of ps) ≡ length (integers ps)
unfolding set_of
len_is ps d = len_ascending _ (integers ps) (integers-ascending ps _ _ d.apart)

-- ---- intervals by their places

pub integers_room : (ps : List (ℤ × ℤ)) (low high : ℤ) → IsApart low ps high → (low +ℤ pos (length (integers ps))) ≤ℤ high
unfolding integers
integers_room [] low high a = omega (arith, ints)
integers_room (p ∷ ps) low high a =
    let r = integers_room ps (p.1 +ℤ pos 1) high a.2 in
    let e = count_is p.0 p.1 a.1 in
    let l = length-append (integers_from p.0 (count p.0 p.1)) (integers ps) in
    let n = length-run p.0 (count p.0 p.1) in
    omega (arith, ints, r, e, l, n)

pub integers_few : (ps : List (ℤ × ℤ)) → IsDomain ps → length (integers ps) ≤ 2_000_000_000_002
integers_few ps d = let r = integers_room ps _ _ d.apart in omega (arith, ints, r)

pub integers_at : (ps : List (ℤ × ℤ)) (n : ℕ) (d : ℤ × ℤ) → n < length ps → integers (drop n ps) ≡ integers_from (get_or ps n d).0 (count (get_or ps n d).0 (get_or ps n d).1) ++ integers (drop (n + 1) ps)
unfolding integers
integers_at ps n d h = at_drop_more integers ps n d h

pub length_at : (ps : List (ℤ × ℤ)) (n : ℕ) (d : ℤ × ℤ) → n < length ps → length (integers (drop n ps)) ≡ count (get_or ps n d).0 (get_or ps n d).1 + length (integers (drop (n + 1) ps))
length_at ps n d h =
    ap length (integers_at ps n d h) ∙ length-append (integers_from (get_or ps n d).0 (count (get_or ps n d).0 (get_or ps n d).1)) (integers (drop (n + 1) ps))
    ∙ ap (λ m. m + length (integers (drop (n + 1) ps))) (length-run (get_or ps n d).0 _)

pub integers_past : (ps : List (ℤ × ℤ)) (n : ℕ) → length ps ≤ n → integers (drop n ps) ≡ []
unfolding integers
integers_past ps n h = at_drop_all integers ps n h

-- ---- the integer at a place

pub get-run : (low : ℤ) (n k : ℕ) (ys : List ℤ) → k < n → slice_get (integers_from low n ++ ys) k ≡ Some (low +ℤ pos k)
unfolding integers_from
get-run low zero k ys h = absurd (omega arith)
get-run low (suc n) zero ys h = ap Some (omega (arith, ints))
get-run low (suc n) (suc k) ys h = get-run (low +ℤ pos 1) n k ys (omega arith) ∙ ap Some (omega (arith, ints))

pub get_past-run : (low : ℤ) (n k : ℕ) (ys : List ℤ) → n ≤ k → slice_get (integers_from low n ++ ys) k ≡ slice_get ys (k - n)
unfolding integers_from
get_past-run low zero k ys h = ap (slice_get ys) (omega arith)
get_past-run low (suc n) zero ys h = absurd (omega arith)
get_past-run low (suc n) (suc k) ys h = get_past-run (low +ℤ pos 1) n k ys (omega arith) ∙ ap (slice_get ys) (omega arith)

pub get_here : (ps : List (ℤ × ℤ)) (n k : ℕ) (d : ℤ × ℤ) → n < length ps → k < count (get_or ps n d).0 (get_or ps n d).1 → slice_get (integers (drop n ps)) k ≡ Some ((get_or ps n d).0 +ℤ pos k)
get_here ps n k d h less = ap (λ xs. slice_get xs k) (integers_at ps n d h) ∙ get-run (get_or ps n d).0 _ k (integers (drop (n + 1) ps)) less

pub get_later : (ps : List (ℤ × ℤ)) (n k : ℕ) (d : ℤ × ℤ) → n < length ps → count (get_or ps n d).0 (get_or ps n d).1 ≤ k
    → slice_get (integers (drop n ps)) k ≡ slice_get (integers (drop (n + 1) ps)) (k - count (get_or ps n d).0 (get_or ps n d).1)
get_later ps n k d h more = ap (λ xs. slice_get xs k) (integers_at ps n d h) ∙ get_past-run (get_or ps n d).0 _ k (integers (drop (n + 1) ps)) more

pub get_past_all : (ps : List (ℤ × ℤ)) (n k : ℕ) → length ps ≤ n → slice_get (integers (drop n ps)) k ≡ None
get_past_all ps n k h = ap (λ xs. slice_get xs k) (integers_past ps n h)

one_run : (v : ℤ) (n : ℕ) → n ≡ 1 → integers_from v n ++ [] ≡ v ∷ []
unfolding integers_from
one_run v zero e = absurd (omega arith)
one_run v (suc zero) e = refl
one_run v (suc (suc n)) e = absurd (omega arith)

pub one_value_alone : (v : ℤ) → set_of ((v, v) ∷ []) ≡ set.from_list (v ∷ [])
unfolding set_of integers
one_value_alone v = let e = count_is v v (omega (arith, ints)) in ap set.from_list (one_run v (count v v) (omega (arith, ints, e)))
