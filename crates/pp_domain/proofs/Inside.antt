-- One step of the walk that tells whether all integers of one list lie in another.
use Rattle.std.proofs.Common.{◌≡◌, ℕ, ℤ, zero, suc, pos, ◌+◌, ◌+ℤ◌, ◌≤ℤ◌, ◌<ℤ◌, ◌<◌, ◌≤◌, inl, inr, true, false, List, [], ◌∷◌, sym, subst, arith, length, drop, get_or}
use Rattle.std.specs.Prelude.{◌↔◌}
use Rattle.std.proofs.lemmas.Int.{ints}
use Rattle.std.proofs.lemmas.List.{drop_more, drop_all}
use Rattle.pp_domain.specs.Intervals.{Lies, IsApart, IsApartInside, IsDomain, lower_limit, upper_limit}
use Rattle.pp_domain.proofs.Canonical.{AllLie, lies_above, begins_later, ends_earlier}
use Rattle.pp_domain.proofs.Positions.{within}

pub apart_down : (ps : List (ℤ × ℤ)) (below low high : ℤ) → below ≤ℤ low → IsApart low ps high → IsApart below ps high
apart_down [] below low high h a = omega (arith, ints)
apart_down (p ∷ ps) below low high h a = (omega (arith, ints, a.0), a.1, a.2)

pub apart_drop : (ps : List (ℤ × ℤ)) (n : ℕ) (low high : ℤ) → IsApart low ps high → IsApart low (drop n ps) high
apart_drop ps zero low high a = a
apart_drop [] (suc n) low high a = a
apart_drop (p ∷ ps) (suc n) low high a = apart_down (drop n ps) low (p.1 +ℤ pos 1) high (omega (arith, ints)) (apart_drop ps n (p.1 +ℤ pos 1) high a.2)

pub apart_at : (ps : List (ℤ × ℤ)) (n : ℕ) (d : ℤ × ℤ) → IsDomain ps → n < length ps → IsApartInside (get_or ps n d ∷ drop (n + 1) ps)
apart_at ps n d a h = subst IsApartInside (drop_more ps n d h) (apart_drop ps n lower_limit upper_limit a.apart)

-- ---- over the heads

not_here : (p q : ℤ × ℤ) (ps qs : List (ℤ × ℤ)) (low high : ℤ) → IsApart low (p ∷ ps) high → IsApart low (q ∷ qs) high → q.1 <ℤ p.1 → AllLie (p ∷ ps) (q ∷ qs) → AllLie (p ∷ ps) qs
not_here p q ps qs low high a b less h v l = go (h v l) l
  where
    go : Lies (q ∷ qs) v → Lies (p ∷ ps) v → Lies qs v
    go (inr i) l = i
    go (inl i) (inl k) = let e = ends_earlier p q ps qs high b.2 (omega (arith, ints)) h in absurd (omega (arith, ints, e))
    go (inl i) (inr k) = let r = lies_above ps (p.1 +ℤ pos 1) high v a.2 k in absurd (omega (arith, ints, r))

in_first : (p q : ℤ × ℤ) (ps qs : List (ℤ × ℤ)) → q.0 ≤ℤ p.0 → p.1 ≤ℤ q.1 → AllLie ps (q ∷ qs) → AllLie (p ∷ ps) (q ∷ qs)
in_first p q ps qs begins ends h v (inl i) = inl (omega (arith, ints, i.0), omega (arith, ints, i.1))
in_first p q ps qs begins ends h v (inr i) = h v i

-- ---- over the rests

pub pass_other : (ps qs : List (ℤ × ℤ)) (i j : ℕ) (d : ℤ × ℤ) → IsDomain ps → IsDomain qs → i < length ps → j < length qs → (get_or qs j d).1 <ℤ (get_or ps i d).1
    → AllLie (drop i ps) (drop j qs) ↔ AllLie (drop i ps) (drop (j + 1) qs)
pass_other ps qs i j d a b h k less =
    let e = drop_more ps i d h in
    let f = drop_more qs j d k in
    let a' = apart_at ps i d a h in
    let b' = apart_at qs j d b k in (
      λ all. subst (λ (xs : List (ℤ × ℤ)). AllLie xs (drop (j + 1) qs)) (sym e)
          (not_here (get_or ps i d) (get_or qs j d) (drop (i + 1) ps) (drop (j + 1) qs) lower_limit upper_limit a' b' less
          (subst (λ (xs : List (ℤ × ℤ)). AllLie xs (get_or qs j d ∷ drop (j + 1) qs)) e (subst (AllLie (drop i ps)) f all))),
      λ all v l. subst (λ (xs : List (ℤ × ℤ)). Lies xs v) (sym f) (inr (all v l)),
    )

pub pass_this : (ps qs : List (ℤ × ℤ)) (i j : ℕ) (d : ℤ × ℤ) → i < length ps → j < length qs → (get_or qs j d).0 ≤ℤ (get_or ps i d).0 → (get_or ps i d).1 ≤ℤ (get_or qs j d).1
    → AllLie (drop i ps) (drop j qs) ↔ AllLie (drop (i + 1) ps) (drop j qs)
pass_this ps qs i j d h k begins ends =
    let e = drop_more ps i d h in
    let f = drop_more qs j d k in (
      λ all v l. all v (subst (λ (xs : List (ℤ × ℤ)). Lies xs v) (sym e) (inr l)),
      λ all. subst (λ (xs : List (ℤ × ℤ)). AllLie xs (drop j qs)) (sym e)
          (subst (AllLie (get_or ps i d ∷ drop (i + 1) ps)) (sym f)
          (in_first (get_or ps i d) (get_or qs j d) (drop (i + 1) ps) (drop (j + 1) qs) begins ends (subst (AllLie (drop (i + 1) ps)) f all))),
    )

pub begins_before : (ps qs : List (ℤ × ℤ)) (i j : ℕ) (d : ℤ × ℤ) → IsDomain ps → IsDomain qs → i < length ps → j < length qs → (get_or ps i d).0 <ℤ (get_or qs j d).0
    → AllLie (drop i ps) (drop j qs) → ⊥
begins_before ps qs i j d a b h k less all =
    let e = drop_more ps i d h in
    let f = drop_more qs j d k in
    let a' = apart_at ps i d a h in
    let b' = apart_at qs j d b k in
    let all' = subst (λ (xs : List (ℤ × ℤ)). AllLie xs (get_or qs j d ∷ drop (j + 1) qs)) e (subst (AllLie (drop i ps)) f all) in
    let r = begins_later (get_or ps i d) (get_or qs j d) (drop (i + 1) ps) (drop (j + 1) qs) lower_limit upper_limit a' b' all' in
    omega (arith, ints, r, less)

pub nothing_left : (ps qs : List (ℤ × ℤ)) (i j : ℕ) (d : ℤ × ℤ) → IsDomain ps → i < length ps → length qs ≤ j → AllLie (drop i ps) (drop j qs) → ⊥
nothing_left ps qs i j d a h k all =
    let e = drop_more ps i d h in
    let w = within ps _ _ i d a.apart h in
    let first : Lies (get_or ps i d ∷ drop (i + 1) ps) (get_or ps i d).0 = inl (omega (arith, ints), w.upward) in
    subst (λ (xs : List (ℤ × ℤ)). Lies xs (get_or ps i d).0) (drop_all j qs k) (all _ (subst (λ (xs : List (ℤ × ℤ)). Lies xs (get_or ps i d).0) (sym e) first))

pub all_passed : (ps qs : List (ℤ × ℤ)) (i j : ℕ) → length ps ≤ i → AllLie (drop i ps) (drop j qs)
all_passed ps qs i j h v l = absurd (subst (λ (xs : List (ℤ × ℤ)). Lies xs v) (drop_all i ps h) l)

pub step : {A B C : Type 0} → A ↔ B → B ↔ C → A ↔ C
step f g = (λ a. g.0 (f.0 a), λ c. f.1 (g.1 c))

-- the answer is no where the rests show it
pub refused : {A B : Type 0} → A ↔ B → (B → ⊥) → (false ≡ true → A) × (A → false ≡ true)
refused f never = (λ e. absurd (cc), λ a. absurd (never (f.0 a)))
