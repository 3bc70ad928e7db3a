-- A value that is taken out of the interval in which it lies.
use Rattle.std.proofs.Common.{◌≡◌, ℕ, ℤ, zero, suc, pos, ◌+◌, ◌+ℤ◌, ◌-ℤ◌, ◌≤ℤ◌, ◌<ℤ◌, ◌<◌, ◌⊎◌, inl, inr, List, [], ◌∷◌, ◌++◌, ap, sym, ◌∙◌, subst, arith, length, take, drop, get_or, take-append-drop}
use Rattle.std.specs.Prelude.{◌↔◌, ◌≢◌}
use Rattle.std.proofs.lemmas.Int.{ints, by_lt_z}
use Rattle.std.proofs.lemmas.List.{drop_more}
use Rattle.pp_domain.specs.Intervals.{Lies, IsApart, IsApartInside, IsDomain, lower_limit, upper_limit}
use Rattle.pp_domain.proofs.Canonical.{lies_above, lies_below}
use Rattle.pp_domain.proofs.Inside.{apart_at}
use Rattle.pp_domain.proofs.Meet.{IsPushed, lies-append, lies_pushed, apart_pushed, apart_up, apart-append}

apart_take : (ps : List (ℤ × ℤ)) (n : ℕ) (d : ℤ × ℤ) (low high : ℤ) → IsApart low ps high → n < length ps → IsApart low (take n ps) ((get_or ps n d).0 -ℤ pos 1)
apart_take [] n d low high a h = absurd (omega arith)
apart_take (p ∷ ps) zero d low high a h = omega (arith, ints, a.0)
apart_take (p ∷ ps) (suc n) d low high a h = (a.0, a.1, apart_take ps n d (p.1 +ℤ pos 1) high a.2 (omega arith))

-- whether or not the interval holds an integer, what is pushed ends at n
pushed_to : (done next : List (ℤ × ℤ)) (m n low end : ℤ) → IsPushed done next m n → end <ℤ m → end ≤ℤ (n +ℤ pos 1) → IsApart low done end → IsApart low next (n +ℤ pos 1)
pushed_to done next m n low end p less room a = by_lt_z n m
    (λ none. subst (λ (xs : List (ℤ × ℤ)). IsApart low xs (n +ℤ pos 1)) (sym (p.none none)) (apart_up done low end (n +ℤ pos 1) room a))
    (λ some. apart_pushed done next m n low end p some less a)

-- the intervals before and after place n, and those that are left of the interval there
pub record IsSplit (ps : List (ℤ × ℤ)) (n : ℕ) (p : ℤ × ℤ) (w : ℤ) (r2 r3 r4 : List (ℤ × ℤ)) : Type 0 where
  pub below : IsPushed (take n ps) r2 p.0 (w -ℤ pos 1)
  pub above : IsPushed r2 r3 (w +ℤ pos 1) p.1
  pub all : r4 ≡ r3 ++ drop (n + 1) ps

pub split_apart : (ps : List (ℤ × ℤ)) (n : ℕ) (d : ℤ × ℤ) (w : ℤ) (r2 r3 r4 : List (ℤ × ℤ)) → IsDomain ps → n < length ps → (get_or ps n d).0 ≤ℤ w → w ≤ℤ (get_or ps n d).1
    → IsSplit ps n (get_or ps n d) w r2 r3 r4 → IsApartInside r4
split_apart ps n d w r2 r3 r4 a h begins ends s =
    let p : ℤ × ℤ = get_or ps n d in
    let first = apart_take ps n d lower_limit upper_limit a.apart h in
    let second : IsApart lower_limit r2 ((w -ℤ pos 1) +ℤ pos 1) = pushed_to (take n ps) r2 p.0 (w -ℤ pos 1) lower_limit (p.0 -ℤ pos 1) s.below (omega (arith, ints)) (omega (arith, ints, begins)) first in
    let third : IsApart lower_limit r3 (p.1 +ℤ pos 1) = pushed_to r2 r3 (w +ℤ pos 1) p.1 lower_limit ((w -ℤ pos 1) +ℤ pos 1) s.above (omega (arith, ints)) (omega (arith, ints, ends)) second in
    let after : IsApart (p.1 +ℤ pos 1) (drop (n + 1) ps) upper_limit = (apart_at ps n d a h).2 in
    subst IsApartInside (sym s.all) (apart-append r3 (drop (n + 1) ps) lower_limit (p.1 +ℤ pos 1) upper_limit third after)

-- v lies before place n, in the interval there, or after it
parted : (ps : List (ℤ × ℤ)) (n : ℕ) (d : ℤ × ℤ) (v : ℤ) → n < length ps → Lies ps v ↔ (Lies (take n ps) v ⊎ Lies (get_or ps n d ∷ drop (n + 1) ps) v)
parted ps n d v h =
    subst (λ (xs : List (ℤ × ℤ)). Lies xs v ↔ (Lies (take n ps) v ⊎ Lies (get_or ps n d ∷ drop (n + 1) ps) v)) (ap (λ (ys : List (ℤ × ℤ)). take n ps ++ ys) (sym (drop_more ps n d h)) ∙ take-append-drop n ps)
    (lies-append (take n ps) (get_or ps n d ∷ drop (n + 1) ps) v)

pub split_lies : (ps : List (ℤ × ℤ)) (n : ℕ) (d : ℤ × ℤ) (w : ℤ) (r2 r3 r4 : List (ℤ × ℤ)) (v : ℤ) → IsDomain ps → n < length ps → (get_or ps n d).0 ≤ℤ w → w ≤ℤ (get_or ps n d).1
    → IsSplit ps n (get_or ps n d) w r2 r3 r4 → Lies r4 v ↔ (Lies ps v × (v ≢ w))
split_lies ps n d w r2 r3 r4 v a h begins ends s = (λ k. from_rests (rests k), back)
  where
    p : ℤ × ℤ
    p = get_or ps n d

    early : Lies (take n ps) v → v <ℤ (get_or ps n d).0
    early k = let r = lies_below (take n ps) lower_limit ((get_or ps n d).0 -ℤ pos 1) v (apart_take ps n d lower_limit upper_limit a.apart h) k in omega (arith, ints, r)

    late : Lies (drop (n + 1) ps) v → (get_or ps n d).1 <ℤ v
    late k = let r = lies_above (drop (n + 1) ps) ((get_or ps n d).1 +ℤ pos 1) upper_limit v (apart_at ps n d a h).2 k in omega (arith, ints, r)

    rests : Lies r4 v → Lies r3 v ⊎ Lies (drop (n + 1) ps) v
    rests k = (lies-append r3 (drop (n + 1) ps) v).0 (subst (λ (xs : List (ℤ × ℤ)). Lies xs v) s.all k)

    from_second : Lies (take n ps) v ⊎ (((get_or ps n d).0 ≤ℤ v) × (v ≤ℤ (w -ℤ pos 1))) → Lies ps v × (v ≢ w)
    from_second (inl k) = ((parted ps n d v h).1 (inl k), λ e. let r = early k in omega (arith, ints, r, begins))
    from_second (inr k) = ((parted ps n d v h).1 (inr (inl (k.0, omega (arith, ints, k.1, ends)))), λ e. omega (arith, ints, k.1))

    from_third : Lies r2 v ⊎ (((w +ℤ pos 1) ≤ℤ v) × (v ≤ℤ (get_or ps n d).1)) → Lies ps v × (v ≢ w)
    from_third (inl k) = from_second ((lies_pushed (take n ps) r2 (get_or ps n d).0 (w -ℤ pos 1) v s.below).0 k)
    from_third (inr k) = ((parted ps n d v h).1 (inr (inl (omega (arith, ints, k.0, begins), k.1))), λ e. omega (arith, ints, k.0))

    from_rests : Lies r3 v ⊎ Lies (drop (n + 1) ps) v → Lies ps v × (v ≢ w)
    from_rests (inl k) = from_third ((lies_pushed r2 r3 (w +ℤ pos 1) (get_or ps n d).1 v s.above).0 k)
    from_rests (inr k) = ((parted ps n d v h).1 (inr (inr k)), λ e. let r = late k in omega (arith, ints, r, ends))

    to_second : Lies (take n ps) v ⊎ (((get_or ps n d).0 ≤ℤ v) × (v ≤ℤ (w -ℤ pos 1))) → Lies r2 v
    to_second k = (lies_pushed (take n ps) r2 (get_or ps n d).0 (w -ℤ pos 1) v s.below).1 k

    to_third : Lies r2 v ⊎ (((w +ℤ pos 1) ≤ℤ v) × (v ≤ℤ (get_or ps n d).1)) → Lies r3 v
    to_third k = (lies_pushed r2 r3 (w +ℤ pos 1) (get_or ps n d).1 v s.above).1 k

    to_all : Lies r3 v ⊎ Lies (drop (n + 1) ps) v → Lies r4 v
    to_all k = subst (λ (xs : List (ℤ × ℤ)). Lies xs v) (sym s.all) ((lies-append r3 (drop (n + 1) ps) v).1 k)

    apart_from_w : v ≢ w → (((get_or ps n d).0 ≤ℤ v) × (v ≤ℤ (get_or ps n d).1)) → Lies r3 v
    apart_from_w u k = by_lt_z v w
        (λ less. to_third (inl (to_second (inr (k.0, omega (arith, ints, less))))))
        (λ more. to_third (inr (omega (arith, ints, more, u), k.1)))

    there : v ≢ w → Lies (take n ps) v ⊎ Lies (get_or ps n d ∷ drop (n + 1) ps) v → Lies r4 v
    there u (inl k) = to_all (inl (to_third (inl (to_second (inl k)))))
    there u (inr (inl k)) = to_all (inl (apart_from_w u k))
    there u (inr (inr k)) = to_all (inr k)

    back : Lies ps v × (v ≢ w) → Lies r4 v
    back k = there k.1 ((parted ps n d v h).0 k.0)

pub none_there : (ps rs : List (ℤ × ℤ)) (v w : ℤ) → rs ≡ ps → (Lies ps w → ⊥) → Lies rs v ↔ (Lies ps v × (v ≢ w))
none_there ps rs v w e never =
    subst (λ (xs : List (ℤ × ℤ)). Lies xs v ↔ (Lies ps v × (v ≢ w))) (sym e) (λ k. (k, λ same. never (subst (Lies ps) same k)), λ k. k.0)

pub pushed_as : (done done' next : List (ℤ × ℤ)) (m m' n n' : ℤ) → done ≡ done' → m ≡ m' → n ≡ n' → IsPushed done next m n → IsPushed done' next m' n'
pushed_as done done' next m m' n n' e f g p =
    subst (λ (xs : List (ℤ × ℤ)). IsPushed xs next m' n') e (subst (λ (z : ℤ). IsPushed done next z n') f (subst (λ (z : ℤ). IsPushed done next m z) g p))
