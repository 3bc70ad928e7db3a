-- The intervals of a domain's members are those that the domain has.
use Rattle.std.proofs.Common.{◌≡◌, ℕ, ℤ, zero, suc, pos, ◌+ℤ◌, ◌<ℤ◌, List, [], ◌∷◌, ◌++◌, map, codes, refl, ap, sym, ◌∙◌, subst, append_assoc, arith}
use Rattle.std.specs.Ordering.{int_eq}
use Rattle.std.proofs.lemmas.Bool.{cond-true, cond-false, false_from_ne_true}
use Rattle.std.proofs.lemmas.Int.{ints}
use Rattle.pp_algebra.proofs.Bools.{int_same, int_is}
use Rattle.pp_domain.specs.Intervals.{IsApart, IsDomain, count, integers}
use Rattle.pp_algebra.specs.Members.{integers_from}
use Rattle.pp_domain.proofs.Members.{count_is}
use Rattle.pp_domain.proofs.MembersListed.{members-set_of}
use Rattle.pp_domain.specs.Sets.{set_of}
use Rattle.pp_language.specs.Texts.{Text}
use Rattle.pp_language.specs.Printing.{with_intervals, intervals_of, interval_text, integers_text, domain_text, joined}
use Rattle.pp_print.proofs.Listed.{listed, listed-joined}

-- the intervals begin behind the integer and are not adjacent to it
abbrev IsBehind : ℤ → List (ℤ × ℤ) → Type 0
IsBehind n [] = Unit {0}
IsBehind n (p ∷ ps) = (n +ℤ pos 1) <ℤ p.0

with-behind : (n : ℤ) (ps : List (ℤ × ℤ)) → IsBehind n ps → with_intervals n ps ≡ (n, n) ∷ ps
with-behind n [] h = refl
with-behind n (p ∷ ps) h = cond-false (int_eq (n +ℤ pos 1) p.0) _ _ (false_from_ne_true (int_eq (n +ℤ pos 1) p.0) (λ t. let e = int_is (n +ℤ pos 1) p.0 t in omega (arith, ints, e)))

with-adjacent : (n m : ℤ) (ps : List (ℤ × ℤ)) → with_intervals n ((n +ℤ pos 1, m) ∷ ps) ≡ (n, m) ∷ ps
with-adjacent n m ps = cond-true (int_eq (n +ℤ pos 1) (n +ℤ pos 1)) _ _ (int_same (n +ℤ pos 1))

intervals-run : (low : ℤ) (n : ℕ) (ns : List ℤ) (ps : List (ℤ × ℤ)) → intervals_of ns ≡ ps → IsBehind (low +ℤ pos n) ps → intervals_of (integers_from low (suc n) ++ ns) ≡ (low, low +ℤ pos n) ∷ ps
unfolding integers_from
intervals-run low zero ns ps e h =
    let z : low +ℤ pos 0 ≡ low = omega (arith, ints) in
    ap (with_intervals low) e ∙ with-behind low ps (subst (λ m. IsBehind m ps) z h) ∙ ap (λ m. (low, m) ∷ ps) (sym z)
intervals-run low (suc n) ns ps e h =
    let z : low +ℤ pos (suc n) ≡ ((low +ℤ pos 1) +ℤ pos n) = omega (arith, ints) in
    ap (with_intervals low) (intervals-run (low +ℤ pos 1) n ns ps e (subst (λ m. IsBehind m ps) z h))
    ∙ with-adjacent low ((low +ℤ pos 1) +ℤ pos n) ps
    ∙ ap (λ m. (low, m) ∷ ps) (sym z)

behind : (n : ℤ) (ps : List (ℤ × ℤ)) (high : ℤ) → IsApart (n +ℤ pos 1) ps high → IsBehind n ps
behind n [] high a = tt
behind n (p ∷ ps) high a = a.0

pub intervals-integers : (ps : List (ℤ × ℤ)) (low high : ℤ) → IsApart low ps high → intervals_of (integers ps) ≡ ps
unfolding integers
intervals-integers [] low high a = refl
intervals-integers (p ∷ ps) low high a = go (count p.0 p.1) (count_is p.0 p.1 a.1) (intervals-integers ps (p.1 +ℤ pos 1) high a.2)
  where
    go : (n : ℕ) → p.0 +ℤ pos n ≡ (p.1 +ℤ pos 1) → intervals_of (integers ps) ≡ ps → intervals_of (integers_from p.0 n ++ integers ps) ≡ p ∷ ps
    go zero e h = absurd (omega (arith, ints, e, a.1))
    go (suc n) e h =
        let z : p.0 +ℤ pos n ≡ p.1 = omega (arith, ints, e) in
        intervals-run p.0 n (integers ps) ps h (subst (λ m. IsBehind m ps) (sym z) (behind p.1 ps high a.2)) ∙ ap (λ m. (p.0, m) ∷ ps) z

domain-is : (ps : List (ℤ × ℤ)) → IsDomain ps → domain_text (set_of ps) ≡ 91 ∷ joined (codes ", ") (map interval_text ps) ++ 93 ∷ []
domain-is ps d = ap (λ ns. integers_text ns) (members-set_of ps d) ∙ ap (λ qs. 91 ∷ joined (codes ", ") (map interval_text qs) ++ 93 ∷ []) (intervals-integers ps _ _ d.apart)

pub domain_written : (ps : List (ℤ × ℤ)) → IsDomain ps → (before begun looped done : Text) → begun ≡ before ++ 91 ∷ [] → looped ≡ begun ++ listed [] (map interval_text ps) → done ≡ looped ++ 93 ∷ [] → done ≡ before ++ domain_text (set_of ps)
domain_written ps d before begun looped done b l e =
    e ∙ ap (λ x. x ++ 93 ∷ []) (l ∙ ap (λ x. x ++ listed [] (map interval_text ps)) b ∙ ap (λ x. (before ++ 91 ∷ []) ++ x) (listed-joined (map interval_text ps)) ∙ append_assoc before (91 ∷ []) (joined (codes ", ") (map interval_text ps)))
    ∙ append_assoc before (91 ∷ joined (codes ", ") (map interval_text ps)) (93 ∷ [])
    ∙ ap (λ x. before ++ x) (sym (domain-is ps d))
