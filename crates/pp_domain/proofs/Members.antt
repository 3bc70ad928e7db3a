-- Which integers a list of intervals and its set hold.
use Rattle.std.proofs.Common.{◌≡◌, ℕ, ℤ, zero, suc, pos, negsuc, ◌+ℤ◌, ◌-ℤ◌, ◌≤ℤ◌, ◌<ℤ◌, ◌⊎◌, inl, inr, true, false, Bool, List, [], ◌∷◌, ◌++◌, refl, ap, ◌∙◌, arith}
use Rattle.std.specs.Prelude.{◌||◌}
use Rattle.std.specs.List.{list_any}
use Rattle.std.specs.Ordering.{int_eq}
use Rattle.std.specs.Bool.{Decides}
use Rattle.std.proofs.lemmas.Bool.Decides.{Decides-int_eq, Decides-or, Decides-like, Decides-at}
use Rattle.std.specs.FinSet as set
use Rattle.std.specs.Cmp.{int_cmp_total}
use Rattle.std.proofs.lemmas.Int.{ints}
use Rattle.pp_domain.specs.Intervals.{natural, count, integers, Lies, IsApart, IsDomain}
use Rattle.pp_algebra.specs.Members.{integers_from}
use Rattle.pp_domain.specs.Sets.{set_of}

natural_is : (z : ℤ) → pos 0 ≤ℤ z → pos (natural z) ≡ z
natural_is (pos n) h = refl
natural_is (negsuc n) h = absurd (omega (arith, ints))

pub count_is : (low high : ℤ) → low ≤ℤ high → low +ℤ pos (count low high) ≡ (high +ℤ pos 1)
unfolding count
count_is low high h = let n = natural_is ((high -ℤ low) +ℤ pos 1) (omega (arith, ints)) in omega (arith, ints, n)

-- a test over a list of integers: is v one of them
abbrev pub one_of : ℤ → List ℤ → Bool
one_of v xs = list_any (int_eq v) xs

one_of-append : (v : ℤ) (xs ys : List ℤ) → one_of v (xs ++ ys) ≡ (one_of v xs || one_of v ys)
one_of-append v [] ys = refl
one_of-append v (x ∷ xs) ys = ap (λ b. int_eq v x || b) (one_of-append v xs ys) ∙ grouped (int_eq v x) _ _
  where
    grouped : (a b c : Bool) → (a || (b || c)) ≡ ((a || b) || c)
    grouped true b c = refl
    grouped false b c = refl

cases_int : (x y : ℤ) → (x ≡ y) ⊎ (x ≡ y → ⊥)
cases_int x y = go (int_eq x y) refl
  where
    go : (b : Bool) → int_eq x y ≡ b → (x ≡ y) ⊎ (x ≡ y → ⊥)
    go true e = inl ((Decides-int_eq x y).0 e)
    go false e = inr (λ f. let g = (Decides-int_eq x y).1 f in absurd (cc))

first_or_later : (low : ℤ) (n : ℕ) (v : ℤ) → (v ≡ low) ⊎ (((low +ℤ pos 1) ≤ℤ v) × (v <ℤ ((low +ℤ pos 1) +ℤ pos n))) → (low ≤ℤ v) × (v <ℤ (low +ℤ pos (suc n)))
first_or_later low n v (inl e) = (omega (arith, ints), omega (arith, ints))
first_or_later low n v (inr h) = (omega (arith, ints), omega (arith, ints))

later_or_first : (low : ℤ) (n : ℕ) (v : ℤ) → (low ≤ℤ v) × (v <ℤ (low +ℤ pos (suc n))) → (v ≡ low) ⊎ (((low +ℤ pos 1) ≤ℤ v) × (v <ℤ ((low +ℤ pos 1) +ℤ pos n)))
later_or_first low n v h = elim (cases_int v low) [
  | inl e ↦ inl e
  | inr d ↦ inr (omega (arith, ints), omega (arith, ints))
]

no_room : (low v : ℤ) → (low ≤ℤ v) × (v <ℤ (low +ℤ pos 0)) → ⊥
no_room low v h = omega (arith, ints)

pub one_of-run : (v low : ℤ) (n : ℕ) → Decides (one_of v (integers_from low n)) ((low ≤ℤ v) × (v <ℤ (low +ℤ pos n)))
unfolding integers_from
one_of-run v low zero = (λ h. absurd (cc), λ h. absurd (no_room low v h))
one_of-run v low (suc n) =
    Decides-like _ (first_or_later low n v) (later_or_first low n v)
    (Decides-or (int_eq v low) (one_of v (integers_from (low +ℤ pos 1) n)) (Decides-int_eq v low) (one_of-run v (low +ℤ pos 1) n))

in_first : (p : ℤ × ℤ) (v : ℤ) → p.0 ≤ℤ p.1 → (p.0 ≤ℤ v) × (v <ℤ (p.0 +ℤ pos (count p.0 p.1))) → (p.0 ≤ℤ v) × (v ≤ℤ p.1)
in_first p v o h = let e = count_is p.0 p.1 o in (h.0, omega (arith, ints, e))

first_in : (p : ℤ × ℤ) (v : ℤ) → p.0 ≤ℤ p.1 → (p.0 ≤ℤ v) × (v ≤ℤ p.1) → (p.0 ≤ℤ v) × (v <ℤ (p.0 +ℤ pos (count p.0 p.1)))
first_in p v o h = let e = count_is p.0 p.1 o in (h.0, omega (arith, ints, e))

pub one_of-integers : (ps : List (ℤ × ℤ)) (v low high : ℤ) → IsApart low ps high → Decides (one_of v (integers ps)) (Lies ps v)
unfolding integers
one_of-integers [] v low high a = (λ h. absurd (cc), λ h. absurd h)
one_of-integers (p ∷ ps) v low high a =
    Decides-at _ _ (one_of-append v (integers_from p.0 (count p.0 p.1)) (integers ps))
    (Decides-or (one_of v (integers_from p.0 (count p.0 p.1))) (one_of v (integers ps))
    (Decides-like _ (in_first p v a.1) (first_in p v a.1) (one_of-run v p.0 (count p.0 p.1)))
    (one_of-integers ps v (p.1 +ℤ pos 1) high a.2))

pub contains_apart : (ps : List (ℤ × ℤ)) (v low high : ℤ) → IsApart low ps high → Decides (set.contains (set_of ps) v) (Lies ps v)
unfolding set_of
contains_apart ps v low high a = Decides-at _ _ (set.contains-from_list int_cmp_total (integers ps) v) (one_of-integers ps v low high a)

-- an integer is in a domain's set exactly where it lies in an interval
pub contains_lies : (ps : List (ℤ × ℤ)) (v : ℤ) → IsDomain ps → Decides (set.contains (set_of ps) v) (Lies ps v)
contains_lies ps v d = contains_apart ps v _ _ d.apart
