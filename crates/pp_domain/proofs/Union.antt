-- One step of the walk that merges two lists of intervals.
use Rattle.std.proofs.Common.{◌≡◌, ℕ, ℤ, pos, ◌+◌, ◌+ℤ◌, ◌-ℤ◌, ◌≤ℤ◌, ◌<ℤ◌, ◌<◌, ◌≤◌, ◌⊎◌, inl, inr, List, [], ◌∷◌, ◌++◌, ap, sym, ◌∙◌, subst, arith, length, drop, get_or, length-append, to_z, of_z, w64}
use Rattle.std.specs.Prelude.{◌↔◌}
use Rattle.std.specs.Int.{int_max, int_min}
use Rattle.std.proofs.lemmas.Int.{ints, clamps, by_lt_z}
use Rattle.std.proofs.lemmas.List.{drop_more, drop_all}
use Rattle.std.proofs.lemmas.Bool.{cases_lt}
use Rattle.pp_domain.specs.Intervals.{Lies, IsApart, IsApartInside, IsDomain, lower_limit, upper_limit}
use Rattle.pp_algebra.specs.Members.{IsInteger}
use Rattle.pp_domain.specs.Merging.{IsNext}
use Rattle.pp_domain.proofs.Positions.{within, begin_word}
use Rattle.pp_domain.proofs.Words.{word_is}
use Rattle.pp_domain.proofs.Inside.{apart_down, apart_at, step}
use Rattle.pp_domain.proofs.Meet.{lies-append, apart-append}

-- the interval p at the end of xs may grow to end at e
grown : (xs : List (ℤ × ℤ)) (p : ℤ × ℤ) (e low high : ℤ) → IsApart low (xs ++ p ∷ []) high → p.0 ≤ℤ e → e <ℤ high → IsApart low (xs ++ (p.0, e) ∷ []) high
grown [] p e low high a up room = (a.0, up, omega (arith, ints, room))
grown (x ∷ xs) p e low high a up room = (a.0, a.1, grown xs p e (x.1 +ℤ pos 1) high a.2 up room)

-- they end where p does
tight : (xs : List (ℤ × ℤ)) (p : ℤ × ℤ) (low high : ℤ) → IsApart low (xs ++ p ∷ []) high → IsApart low (xs ++ p ∷ []) (p.1 +ℤ pos 1)
tight [] p low high a = (a.0, a.1, omega (arith, ints))
tight (x ∷ xs) p low high a = (a.0, a.1, tight xs p (x.1 +ℤ pos 1) high a.2)

pub last_within : (xs : List (ℤ × ℤ)) (p : ℤ × ℤ) (low high : ℤ) → IsApart low (xs ++ p ∷ []) high → (low <ℤ p.0) × (p.0 ≤ℤ p.1) × (p.1 <ℤ high)
last_within [] p low high a = (a.0, a.1, omega (arith, ints, a.2))
last_within (x ∷ xs) p low high a = let r = last_within xs p (x.1 +ℤ pos 1) high a.2 in (omega (arith, ints, r.0, a.0, a.1), r.1, r.2)

-- the last interval after `next`
pub record IsAbsorbed (done : List (ℤ × ℤ)) (last next : ℤ × ℤ) (done' : List (ℤ × ℤ)) (last' : ℤ × ℤ) : Type 0 where
  pub touching : next.0 ≤ℤ (last.1 +ℤ pos 1) → (last' ≡ (last.0, int_max last.1 next.1)) × (done' ≡ done)
  pub apart : (last.1 +ℤ pos 1) <ℤ next.0 → (last' ≡ next) × (done' ≡ done ++ last ∷ [])

-- what holds of the lists with their last interval in both cases holds of those that are absorbed
by_absorbed : {done done' : List (ℤ × ℤ)} {last next last' : ℤ × ℤ} (P : List (ℤ × ℤ) → ℤ × ℤ → Type 0) → IsAbsorbed done last next done' last'
    → (next.0 ≤ℤ (last.1 +ℤ pos 1) → P done (last.0, int_max last.1 next.1)) → ((last.1 +ℤ pos 1) <ℤ next.0 → P (done ++ last ∷ []) next) → P done' last'
by_absorbed {done} {done'} {last} {next} {last'} P b touch far = by_lt_z (last.1 +ℤ pos 1) next.0
    (λ less. subst (λ (xs : List (ℤ × ℤ)). P xs last') (sym (b.apart less).1) (subst (λ (p : ℤ × ℤ). P (done ++ last ∷ []) p) (sym (b.apart less).0) (far less)))
    (λ more. subst (λ (xs : List (ℤ × ℤ)). P xs last') (sym (b.touching more).1) (subst (λ (p : ℤ × ℤ). P done p) (sym (b.touching more).0) (touch more)))

absorbed_apart : (done done' : List (ℤ × ℤ)) (last next last' : ℤ × ℤ) → IsAbsorbed done last next done' last' → IsApartInside (done ++ last ∷ []) → next.0 ≤ℤ next.1 → next.1 <ℤ upper_limit
    → IsApartInside (done' ++ last' ∷ [])
absorbed_apart done done' last next last' b a up room =
    let w = last_within done last lower_limit upper_limit a in
    by_absorbed (λ xs p. IsApartInside (xs ++ p ∷ [])) b
    (λ touch. grown done last (int_max last.1 next.1) lower_limit upper_limit a (omega (arith, ints, clamps, w.1)) (omega (arith, ints, clamps, w.2, room)))
    (λ far. apart-append (done ++ last ∷ []) (next ∷ []) lower_limit (last.1 +ℤ pos 1) upper_limit (tight done last lower_limit upper_limit a) (far, up, omega (arith, ints, room)))

absorbed_begins : (done done' : List (ℤ × ℤ)) (last next last' : ℤ × ℤ) → IsAbsorbed done last next done' last' → last.0 ≤ℤ next.0 → last'.0 ≤ℤ next.0
absorbed_begins done done' last next last' b h = by_absorbed (λ xs p. p.0 ≤ℤ next.0) b (λ touch. h) (λ far. omega (arith, ints))

lies_last : (done : List (ℤ × ℤ)) (last : ℤ × ℤ) (v : ℤ) → Lies (done ++ last ∷ []) v ↔ (Lies done v ⊎ ((last.0 ≤ℤ v) × (v ≤ℤ last.1)))
lies_last done last v = step (lies-append done (last ∷ []) v) (there, back)
  where
    there : Lies done v ⊎ Lies (last ∷ []) v → Lies done v ⊎ ((last.0 ≤ℤ v) × (v ≤ℤ last.1))
    there (inl h) = inl h
    there (inr (inl h)) = inr h
    there (inr (inr h)) = absurd h

    back : Lies done v ⊎ ((last.0 ≤ℤ v) × (v ≤ℤ last.1)) → Lies done v ⊎ Lies (last ∷ []) v
    back (inl h) = inl h
    back (inr h) = inr (inl h)

-- v lies in what is done or in `next`
abbrev Together : List (ℤ × ℤ) → ℤ × ℤ → ℤ × ℤ → ℤ → Type 0
Together done last next v = Lies (done ++ last ∷ []) v ⊎ ((next.0 ≤ℤ v) × (v ≤ℤ next.1))

grown_lies : (done : List (ℤ × ℤ)) (last next : ℤ × ℤ) (v : ℤ) → last.0 ≤ℤ next.0 → next.0 ≤ℤ (last.1 +ℤ pos 1)
    → Lies (done ++ (last.0, int_max last.1 next.1) ∷ []) v ↔ Together done last next v
grown_lies done last next v h touch = (λ k. there ((lies_last done (last.0, int_max last.1 next.1) v).0 k), λ k. (lies_last done (last.0, int_max last.1 next.1) v).1 (back k))
  where
    split : (last.0 ≤ℤ v) × (v ≤ℤ int_max last.1 next.1) → Together done last next v
    split k = by_lt_z last.1 v
        (λ later. inr (omega (arith, ints, later, touch), omega (arith, ints, clamps, k.1, later)))
        (λ here. inl ((lies_last done last v).1 (inr (k.0, here))))

    there : Lies done v ⊎ ((last.0 ≤ℤ v) × (v ≤ℤ int_max last.1 next.1)) → Together done last next v
    there (inl k) = inl ((lies_last done last v).1 (inl k))
    there (inr k) = split k

    grow : Lies done v ⊎ ((last.0 ≤ℤ v) × (v ≤ℤ last.1)) → Lies done v ⊎ ((last.0 ≤ℤ v) × (v ≤ℤ int_max last.1 next.1))
    grow (inl k) = inl k
    grow (inr k) = inr (k.0, omega (arith, ints, clamps, k.1))

    back : Together done last next v → Lies done v ⊎ ((last.0 ≤ℤ v) × (v ≤ℤ int_max last.1 next.1))
    back (inl k) = grow ((lies_last done last v).0 k)
    back (inr k) = inr (omega (arith, ints, h, k.0), omega (arith, ints, clamps, k.1))

absorbed_lies : (done done' : List (ℤ × ℤ)) (last next last' : ℤ × ℤ) (v : ℤ) → IsAbsorbed done last next done' last' → last.0 ≤ℤ next.0
    → Lies (done' ++ last' ∷ []) v ↔ Together done last next v
absorbed_lies done done' last next last' v b h =
    by_absorbed (λ xs p. Lies (xs ++ p ∷ []) v ↔ Together done last next v) b (grown_lies done last next v h) (λ far. lies_last (done ++ last ∷ []) next v)

-- ---- over the rests of the two lists

-- what is done, the last interval and the rests have the integers of both lists
pub record Gathers (ps qs : List (ℤ × ℤ)) (i j : ℕ) (done : List (ℤ × ℤ)) (last : ℤ × ℤ) : Type 0 where
  pub i_bound : i ≤ length ps
  pub j_bound : j ≤ length qs
  pub apart : IsApartInside (done ++ last ∷ [])
  pub i_after : IsApart (last.0 -ℤ pos 1) (drop i ps) upper_limit
  pub j_after : IsApart (last.0 -ℤ pos 1) (drop j qs) upper_limit
  pub lies : (v : ℤ) → (Lies ps v ⊎ Lies qs v) ↔ (Lies (done ++ last ∷ []) v ⊎ (Lies (drop i ps) v ⊎ Lies (drop j qs) v))

turn : {A B : Type 0} → A ⊎ B → B ⊎ A
turn (inl h) = inr h
turn (inr h) = inl h

turn_rest : {A B C : Type 0} → A ⊎ (B ⊎ C) → A ⊎ (C ⊎ B)
turn_rest (inl h) = inl h
turn_rest (inr h) = inr (turn h)

pub gathers_turned : (ps qs : List (ℤ × ℤ)) (i j : ℕ) (done : List (ℤ × ℤ)) (last : ℤ × ℤ) → Gathers ps qs i j done last → Gathers qs ps j i done last
gathers_turned ps qs i j done last g = record {
  i_bound = g.j_bound;
  j_bound = g.i_bound;
  apart = g.apart;
  i_after = g.j_after;
  j_after = g.i_after;
  lies = λ v. (λ h. turn_rest ((g.lies v).0 (turn h)), λ h. turn ((g.lies v).1 (turn_rest h)));
}

-- the rest of the other list begins no earlier than `next`
other_after : (qs : List (ℤ × ℤ)) (j : ℕ) (d : ℤ × ℤ) (low : ℤ) (next : ℤ × ℤ) → IsDomain qs → next.0 ≤ℤ next.1 → next.1 <ℤ upper_limit
    → (j < length qs → next.0 ≤ℤ (get_or qs j d).0) → j ≤ length qs → low ≤ℤ next.0 → IsApart (low -ℤ pos 1) (drop j qs) upper_limit
other_after qs j d low next b up room first bound below = go (cases_lt j (length qs))
  where
    go : (j < length qs) ⊎ (length qs ≤ j) → IsApart (low -ℤ pos 1) (drop j qs) upper_limit
    go (inl h) =
        let r = first h in
        let a = apart_at qs j d b h in
        subst (λ (xs : List (ℤ × ℤ)). IsApart (low -ℤ pos 1) xs upper_limit) (sym (drop_more qs j d h)) (omega (arith, ints, r, below), a.1, a.2)
    go (inr h) = subst (λ (xs : List (ℤ × ℤ)). IsApart (low -ℤ pos 1) xs upper_limit) (sym (drop_all j qs h)) (omega (arith, ints, below, up, room))

-- v lies in the next interval, or after it
rest_splits : (ps : List (ℤ × ℤ)) (i : ℕ) (d : ℤ × ℤ) (v : ℤ) → i < length ps → Lies (drop i ps) v ↔ ((((get_or ps i d).0 ≤ℤ v) × (v ≤ℤ (get_or ps i d).1)) ⊎ Lies (drop (i + 1) ps) v)
rest_splits ps i d v h = subst (λ (xs : List (ℤ × ℤ)). Lies xs v ↔ ((((get_or ps i d).0 ≤ℤ v) × (v ≤ℤ (get_or ps i d).1)) ⊎ Lies (drop (i + 1) ps) v)) (sym (drop_more ps i d h)) (λ k. k, λ k. k)

regroup : {A B C D E F : Type 0} → A ↔ (B ⊎ C) → E ↔ (C ⊎ F) → (B ⊎ (E ⊎ D)) ↔ (A ⊎ (F ⊎ D))
regroup {A} {B} {C} {D} {E} {F} f g = (there, back)
  where
    next : C ⊎ F → A ⊎ (F ⊎ D)
    next (inl h) = inl (f.1 (inr h))
    next (inr h) = inr (inl h)

    there : B ⊎ (E ⊎ D) → A ⊎ (F ⊎ D)
    there (inl h) = inl (f.1 (inl h))
    there (inr (inl h)) = next (g.0 h)
    there (inr (inr h)) = inr (inr h)

    from : B ⊎ C → B ⊎ (E ⊎ D)
    from (inl h) = inl h
    from (inr h) = inr (inl (g.1 (inl h)))

    back : A ⊎ (F ⊎ D) → B ⊎ (E ⊎ D)
    back (inl h) = from (f.0 h)
    back (inr (inl h)) = inr (inl (g.1 (inr h)))
    back (inr (inr h)) = inr (inr h)

pub gathers_more : (ps qs : List (ℤ × ℤ)) (i j : ℕ) (done done' : List (ℤ × ℤ)) (last last' : ℤ × ℤ) → IsDomain ps → IsDomain qs → IsNext ps i qs j
    → IsAbsorbed done last (get_or ps i (pos 0, pos 0)) done' last' → Gathers ps qs i j done last → Gathers ps qs (i + 1) j done' last'
gathers_more ps qs i j done done' last last' a b n s g =
    let d : ℤ × ℤ = (pos 0, pos 0) in
    let next : ℤ × ℤ = get_or ps i d in
    let w = within ps lower_limit upper_limit i d a.apart n.within in
    let after = subst (λ (xs : List (ℤ × ℤ)). IsApart (last.0 -ℤ pos 1) xs upper_limit) (drop_more ps i d n.within) g.i_after in
    let order : last.0 ≤ℤ next.0 = omega (arith, ints, after.0) in
    let begins = absorbed_begins done done' last next last' s order in
    record {
      i_bound = omega (arith, n.within);
      j_bound = g.j_bound;
      apart = absorbed_apart done done' last next last' s g.apart w.upward w.below;
      i_after = apart_down (drop (i + 1) ps) (last'.0 -ℤ pos 1) (next.1 +ℤ pos 1) upper_limit (omega (arith, ints, begins, w.upward)) after.2;
      j_after = other_after qs j d last'.0 next b w.upward w.below n.first g.j_bound begins;
      lies = λ v. step (g.lies v) (regroup (absorbed_lies done done' last next last' v s order) (rest_splits ps i d v n.within));
    }

-- the walk begins with the first integer of both
pub gathers_first : (ps qs : List (ℤ × ℤ)) (m : ℤ) → IsDomain ps → IsDomain qs → m ≡ int_min (get_or ps 0 (pos 0, pos 0)).0 (get_or qs 0 (pos 0, pos 0)).0 → Gathers ps qs 0 0 [] (m, m)
gathers_first ps qs m a b e =
    let d : ℤ × ℤ = (pos 0, pos 0) in
    let v = within ps lower_limit upper_limit 0 d a.apart a.some in
    let w = within qs lower_limit upper_limit 0 d b.apart b.some in
    record {
      i_bound = omega arith;
      j_bound = omega arith;
      apart = (omega (arith, ints, clamps, e, v.above, w.above), omega (arith, ints), omega (arith, ints, clamps, e, v.upward, v.below, w.upward, w.below));
      i_after = other_after ps 0 d m (get_or ps 0 d) a v.upward v.below (λ h. omega (arith, ints)) (omega arith) (omega (arith, ints, clamps, e));
      j_after = other_after qs 0 d m (get_or qs 0 d) b w.upward w.below (λ h. omega (arith, ints)) (omega arith) (omega (arith, ints, clamps, e));
      lies = λ u. (λ h. inr h, λ h. first u v.upward w.upward h);
    }
  where
    in_left : (u : ℤ) → (get_or ps 0 (pos 0, pos 0)).0 ≤ℤ (get_or ps 0 (pos 0, pos 0)).1 → u ≡ (get_or ps 0 (pos 0, pos 0)).0 → Lies ps u
    in_left u up same = (rest_splits ps 0 (pos 0, pos 0) u a.some).1 (inl (omega (arith, ints, same), omega (arith, ints, same, up)))

    in_right : (u : ℤ) → (get_or qs 0 (pos 0, pos 0)).0 ≤ℤ (get_or qs 0 (pos 0, pos 0)).1 → u ≡ (get_or qs 0 (pos 0, pos 0)).0 → Lies qs u
    in_right u up same = (rest_splits qs 0 (pos 0, pos 0) u b.some).1 (inl (omega (arith, ints, same), omega (arith, ints, same, up)))

    first : (u : ℤ) → (get_or ps 0 (pos 0, pos 0)).0 ≤ℤ (get_or ps 0 (pos 0, pos 0)).1 → (get_or qs 0 (pos 0, pos 0)).0 ≤ℤ (get_or qs 0 (pos 0, pos 0)).1
        → Lies ((m, m) ∷ []) u ⊎ (Lies ps u ⊎ Lies qs u) → Lies ps u ⊎ Lies qs u
    first u up up' (inr h) = h
    first u up up' (inl (inr h)) = absurd h
    first u up up' (inl (inl h)) = by_lt_z (get_or ps 0 (pos 0, pos 0)).0 (get_or qs 0 (pos 0, pos 0)).0
        (λ less. inl (in_left u up (omega (arith, ints, clamps, e, h.0, h.1, less))))
        (λ more. inr (in_right u up' (omega (arith, ints, clamps, e, h.0, h.1, more))))

pub gathered_domain : (ps qs : List (ℤ × ℤ)) (i j : ℕ) (done all : List (ℤ × ℤ)) (last : ℤ × ℤ) → all ≡ done ++ last ∷ [] → Gathers ps qs i j done last → IsDomain all
gathered_domain ps qs i j done all last e g =
    subst IsDomain (sym e) (record { some = omega (arith, length-append done (last ∷ [])); apart = g.apart })

pub gathered_lies : (ps qs : List (ℤ × ℤ)) (i j : ℕ) (done all : List (ℤ × ℤ)) (last : ℤ × ℤ) (v : ℤ) → all ≡ done ++ last ∷ [] → length ps ≤ i → length qs ≤ j
    → Gathers ps qs i j done last → Lies all v ↔ (Lies ps v ⊎ Lies qs v)
gathered_lies ps qs i j done all last v e h k g =
    subst (λ (xs : List (ℤ × ℤ)). Lies xs v ↔ (Lies ps v ⊎ Lies qs v)) (sym e) (λ l. (g.lies v).1 (inl l), λ l. alone ((g.lies v).0 l))
  where
    alone : Lies (done ++ last ∷ []) v ⊎ (Lies (drop i ps) v ⊎ Lies (drop j qs) v) → Lies (done ++ last ∷ []) v
    alone (inl l) = l
    alone (inr (inl l)) = absurd (subst (λ (xs : List (ℤ × ℤ)). Lies xs v) (drop_all i ps h) l)
    alone (inr (inr l)) = absurd (subst (λ (xs : List (ℤ × ℤ)). Lies xs v) (drop_all j qs k) l)

pub last_integer : (ps qs : List (ℤ × ℤ)) (i j : ℕ) (done : List (ℤ × ℤ)) (last : ℤ × ℤ) → Gathers ps qs i j done last → IsInteger last.1
last_integer ps qs i j done last g =
    let w = last_within done last lower_limit upper_limit g.apart in
    record { at_least = omega (arith, ints, w.0, w.1); at_most = omega (arith, ints, w.2) }

-- the first integer of both, as the code computes it by words
pub word_first : (ps qs : List (ℤ × ℤ)) (m : ℤ) → IsDomain ps → IsDomain qs
    → m ≡ int_min (to_z w64 (of_z w64 (get_or ps 0 (pos 0, pos 0)).0)) (to_z w64 (of_z w64 (get_or qs 0 (pos 0, pos 0)).0))
    → to_z w64 (of_z w64 m) ≡ int_min (get_or ps 0 (pos 0, pos 0)).0 (get_or qs 0 (pos 0, pos 0)).0
word_first ps qs m a b e =
    let d : ℤ × ℤ = (pos 0, pos 0) in
    let v = within ps lower_limit upper_limit 0 d a.apart a.some in
    let w = within qs lower_limit upper_limit 0 d b.apart b.some in
    let f : m ≡ int_min (get_or ps 0 d).0 (get_or qs 0 d).0 = e ∙ ap (λ z. int_min z (to_z w64 (of_z w64 (get_or qs 0 d).0))) (begin_word ps 0 d a a.some) ∙ ap (int_min (get_or ps 0 d).0) (begin_word qs 0 d b b.some) in
    word_is m (omega (arith, ints, clamps, f, v.above, w.above)) (omega (arith, ints, clamps, f, v.below, w.below, v.upward, w.upward)) ∙ f
