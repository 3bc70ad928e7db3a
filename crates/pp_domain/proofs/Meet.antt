-- One step of the walk that collects what two lists of intervals share.
use Rattle.std.proofs.Common.{◌≡◌, ℕ, ℤ, pos, ◌+◌, ◌+ℤ◌, ◌≤ℤ◌, ◌<ℤ◌, ◌<◌, ◌≤◌, ◌⊎◌, inl, inr, List, [], ◌∷◌, ◌++◌, ap, sym, ◌∙◌, subst, arith, length, drop, get_or, to_z, of_z, w64}
use Rattle.std.specs.Prelude.{◌↔◌}
use Rattle.std.proofs.lemmas.Int.{ints, clamps, by_lt_z}
use Rattle.std.specs.Int.{int_max, int_min}
use Rattle.std.proofs.lemmas.List.{drop_more, drop_all}
use Rattle.pp_domain.specs.Intervals.{Lies, IsApart, IsApartInside, IsDomain, lower_limit, upper_limit}
use Rattle.pp_domain.proofs.Canonical.{lies_first, apart_room}
use Rattle.pp_domain.proofs.Words.{word_is}
use Rattle.pp_domain.proofs.Positions.{within, begin_word, end_word}
use Rattle.pp_domain.proofs.Inside.{apart_down, apart_at, step}

pub lies-append : (xs ys : List (ℤ × ℤ)) (v : ℤ) → Lies (xs ++ ys) v ↔ (Lies xs v ⊎ Lies ys v)
lies-append [] ys v = (λ h. inr h, back)
  where
    back : ⊥ ⊎ Lies ys v → Lies ys v
    back (inl h) = absurd h
    back (inr h) = h
lies-append (x ∷ xs) ys v = (there (lies-append xs ys v).0, back (lies-append xs ys v).1)
  where
    there : (Lies (xs ++ ys) v → Lies xs v ⊎ Lies ys v) → Lies (x ∷ xs ++ ys) v → Lies (x ∷ xs) v ⊎ Lies ys v
    there f (inl h) = inl (inl h)
    there f (inr h) = elim (f h) [ inl k ↦ inl (inr k) | inr k ↦ inr k ]

    back : (Lies xs v ⊎ Lies ys v → Lies (xs ++ ys) v) → Lies (x ∷ xs) v ⊎ Lies ys v → Lies (x ∷ xs ++ ys) v
    back f (inl (inl h)) = inl h
    back f (inl (inr h)) = inr (f (inl h))
    back f (inr h) = inr (f (inr h))

pub apart-append : (xs ys : List (ℤ × ℤ)) (low middle high : ℤ) → IsApart low xs middle → IsApart middle ys high → IsApart low (xs ++ ys) high
apart-append [] ys low middle high a b = apart_down ys low middle high a b
apart-append (x ∷ xs) ys low middle high a b = (a.0, a.1, apart-append xs ys (x.1 +ℤ pos 1) middle high a.2 b)

pub apart_up : (xs : List (ℤ × ℤ)) (low high above : ℤ) → high ≤ℤ above → IsApart low xs high → IsApart low xs above
apart_up [] low high above h a = omega (arith, ints)
apart_up (x ∷ xs) low high above h a = (a.0, a.1, apart_up xs (x.1 +ℤ pos 1) high above h a.2)

-- `next` is `done` with the interval from m to n, where that holds an integer
pub record IsPushed (done next : List (ℤ × ℤ)) (m n : ℤ) : Type 0 where
  pub some : m ≤ℤ n → next ≡ done ++ (m, n) ∷ []
  pub none : n <ℤ m → next ≡ done

pub lies_pushed : (done next : List (ℤ × ℤ)) (m n v : ℤ) → IsPushed done next m n → Lies next v ↔ (Lies done v ⊎ ((m ≤ℤ v) × (v ≤ℤ n)))
lies_pushed done next m n v p = by_lt_z n m
    (λ less. subst (λ (xs : List (ℤ × ℤ)). Lies xs v ↔ (Lies done v ⊎ ((m ≤ℤ v) × (v ≤ℤ n)))) (sym (p.none less)) (λ h. inl h, nothing less))
    (λ more. subst (λ (xs : List (ℤ × ℤ)). Lies xs v ↔ (Lies done v ⊎ ((m ≤ℤ v) × (v ≤ℤ n)))) (sym (p.some more)) (step (lies-append done ((m, n) ∷ []) v) (alone, there)))
  where
    nothing : n <ℤ m → Lies done v ⊎ ((m ≤ℤ v) × (v ≤ℤ n)) → Lies done v
    nothing less (inl h) = h
    nothing less (inr h) = absurd (omega (arith, ints, h.0, h.1))

    alone : Lies done v ⊎ Lies ((m, n) ∷ []) v → Lies done v ⊎ ((m ≤ℤ v) × (v ≤ℤ n))
    alone (inl h) = inl h
    alone (inr (inl h)) = inr h
    alone (inr (inr h)) = absurd h

    there : Lies done v ⊎ ((m ≤ℤ v) × (v ≤ℤ n)) → Lies done v ⊎ Lies ((m, n) ∷ []) v
    there (inl h) = inl h
    there (inr h) = inr (inl h)

pub apart_pushed : (done next : List (ℤ × ℤ)) (m n low end : ℤ) → IsPushed done next m n → m ≤ℤ n → end <ℤ m → IsApart low done end → IsApart low next (n +ℤ pos 1)
apart_pushed done next m n low end p more less a =
    subst (λ (xs : List (ℤ × ℤ)). IsApart low xs (n +ℤ pos 1)) (sym (p.some more)) (apart-append done ((m, n) ∷ []) low end (n +ℤ pos 1) a (less, more, omega (arith, ints)))

-- what is done ends before one of the two rests begins
pub record EndsBefore (done xs ys : List (ℤ × ℤ)) : Type 0 where
  pub end : ℤ
  pub done_apart : IsApart lower_limit done end
  pub one_after : IsApart end xs upper_limit ⊎ IsApart end ys upper_limit

pub turned : (done xs ys : List (ℤ × ℤ)) → EndsBefore done xs ys → EndsBefore done ys xs
turned done xs ys e = record { end = e.end; done_apart = e.done_apart; one_after = elim e.one_after [ inl h ↦ inr h | inr h ↦ inl h ] }

pub ended : (done xs ys : List (ℤ × ℤ)) → EndsBefore done xs ys → IsApartInside done
ended done xs ys e = elim e.one_after [
  | inl h ↦ apart_up done lower_limit e.end upper_limit (apart_room xs e.end upper_limit h) e.done_apart
  | inr h ↦ apart_up done lower_limit e.end upper_limit (apart_room ys e.end upper_limit h) e.done_apart
]

-- m to n is what p and q share, where p ends first
pub record IsSharedBy (p q : ℤ × ℤ) (m n : ℤ) : Type 0 where
  pub left : p.0 ≤ℤ m
  pub right : q.0 ≤ℤ m
  pub least : (v : ℤ) → p.0 ≤ℤ v → q.0 ≤ℤ v → m ≤ℤ v
  pub ends : n ≡ p.1
  pub first : p.1 ≤ℤ q.1

next_end : (done next : List (ℤ × ℤ)) (p q : ℤ × ℤ) (ps qs : List (ℤ × ℤ)) (m n : ℤ) → IsSharedBy p q m n → IsPushed done next m n
    → IsApart lower_limit (p ∷ ps) upper_limit → EndsBefore done (p ∷ ps) (q ∷ qs) → EndsBefore next ps (q ∷ qs)
next_end done next p q ps qs m n s u a e = by_lt_z n m
    (λ less. record {
      end = e.end;
      done_apart = subst (λ (xs : List (ℤ × ℤ)). IsApart lower_limit xs e.end) (sym (u.none less)) e.done_apart;
      one_after = elim e.one_after [
        | inl h ↦ inl (apart_down ps e.end (p.1 +ℤ pos 1) upper_limit (omega (arith, ints, h.0, h.1)) h.2)
        | inr h ↦ inr h
      ];
    })
    (λ more. record {
      end = n +ℤ pos 1;
      done_apart = apart_pushed done next m n lower_limit e.end u more (before e.one_after) e.done_apart;
      one_after = inl (subst (λ (z : ℤ). IsApart (z +ℤ pos 1) ps upper_limit) (sym s.ends) a.2);
    })
  where
    before : IsApart e.end (p ∷ ps) upper_limit ⊎ IsApart e.end (q ∷ qs) upper_limit → e.end <ℤ m
    before (inl h) = omega (arith, ints, h.0, s.left)
    before (inr h) = omega (arith, ints, h.0, s.right)

next_lies : (done next : List (ℤ × ℤ)) (p q : ℤ × ℤ) (ps qs : List (ℤ × ℤ)) (m n v : ℤ) → IsSharedBy p q m n → IsPushed done next m n → IsApart (q.1 +ℤ pos 1) qs upper_limit
    → (Lies done v ⊎ (Lies (p ∷ ps) v × Lies (q ∷ qs) v)) ↔ (Lies next v ⊎ (Lies ps v × Lies (q ∷ qs) v))
next_lies done next p q ps qs m n v s u b = (there, back)
  where
    there : Lies done v ⊎ (Lies (p ∷ ps) v × Lies (q ∷ qs) v) → Lies next v ⊎ (Lies ps v × Lies (q ∷ qs) v)
    there (inl h) = inl ((lies_pushed done next m n v u).1 (inl h))
    there (inr (inl h, k)) =
        let r = lies_first q qs upper_limit v b (omega (arith, ints, h.1, s.first)) k in
        let ends : v ≤ℤ n = omega (arith, ints, h.1, s.ends) in
        inl ((lies_pushed done next m n v u).1 (inr (s.least v h.0 r.0, ends)))
    there (inr (inr h, k)) = inr (h, k)

    from_pushed : Lies done v ⊎ ((m ≤ℤ v) × (v ≤ℤ n)) → Lies done v ⊎ (Lies (p ∷ ps) v × Lies (q ∷ qs) v)
    from_pushed (inl h) = inl h
    from_pushed (inr h) = inr (inl (omega (arith, ints, h.0, s.left), omega (arith, ints, h.1, s.ends)), inl (omega (arith, ints, h.0, s.right), omega (arith, ints, h.1, s.ends, s.first)))

    back : Lies next v ⊎ (Lies ps v × Lies (q ∷ qs) v) → Lies done v ⊎ (Lies (p ∷ ps) v × Lies (q ∷ qs) v)
    back (inl h) = from_pushed ((lies_pushed done next m n v u).0 h)
    back (inr h) = inr (inr h.0, h.1)

-- ---- over the rests of the two lists

-- what is done and what the rests share is what the lists share
pub record Collects (ps qs : List (ℤ × ℤ)) (i j : ℕ) (done : List (ℤ × ℤ)) : Type 0 where
  pub i_bound : i ≤ length ps
  pub j_bound : j ≤ length qs
  pub apart : EndsBefore done (drop i ps) (drop j qs)
  pub lies : (v : ℤ) → (Lies ps v × Lies qs v) ↔ (Lies done v ⊎ (Lies (drop i ps) v × Lies (drop j qs) v))

swapped : {A B : Type 0} → A × B → B × A
swapped h = (h.1, h.0)

pub collects_turned : (ps qs : List (ℤ × ℤ)) (i j : ℕ) (done : List (ℤ × ℤ)) → Collects ps qs i j done → Collects qs ps j i done
collects_turned ps qs i j done c = record {
  i_bound = c.j_bound;
  j_bound = c.i_bound;
  apart = turned done (drop i ps) (drop j qs) c.apart;
  lies = λ v. (λ h. elim ((c.lies v).0 (swapped h)) [ inl k ↦ inl k | inr k ↦ inr (swapped k) ], λ h. swapped (elim h [ inl k ↦ (c.lies v).1 (inl k) | inr k ↦ (c.lies v).1 (inr (swapped k)) ]));
}

pub collects_none : (ps qs : List (ℤ × ℤ)) → IsDomain ps → Collects ps qs 0 0 []
collects_none ps qs a = record {
  i_bound = omega arith;
  j_bound = omega arith;
  apart = record { end = lower_limit; done_apart = omega (arith, ints); one_after = inl a.apart };
  lies = λ v. (λ h. inr h, λ h. elim h [ inl k ↦ absurd k | inr k ↦ k ]);
}

pub collects_more : (ps qs : List (ℤ × ℤ)) (i j : ℕ) (d : ℤ × ℤ) (done next : List (ℤ × ℤ)) (m n : ℤ) → IsDomain ps → IsDomain qs → i < length ps → j < length qs
    → IsSharedBy (get_or ps i d) (get_or qs j d) m n → IsPushed done next m n → Collects ps qs i j done → Collects ps qs (i + 1) j next
collects_more ps qs i j d done next m n a b h k s u c =
    let e = drop_more ps i d h in
    let f = drop_more qs j d k in
    let a' = apart_at ps i d a h in
    let b' = apart_at qs j d b k in
    record {
      i_bound = omega arith;
      j_bound = c.j_bound;
      apart = subst (EndsBefore next (drop (i + 1) ps)) (sym f) (next_end done next (get_or ps i d) (get_or qs j d) (drop (i + 1) ps) (drop (j + 1) qs) m n s u a'
          (subst (EndsBefore done (get_or ps i d ∷ drop (i + 1) ps)) f (subst (λ (xs : List (ℤ × ℤ)). EndsBefore done xs (drop j qs)) e c.apart)));
      lies = λ v. step (c.lies v)
          (subst (λ (xs : List (ℤ × ℤ)). (Lies done v ⊎ (Lies xs v × Lies (drop j qs) v)) ↔ (Lies next v ⊎ (Lies (drop (i + 1) ps) v × Lies (drop j qs) v))) (sym e)
          (subst (λ (ys : List (ℤ × ℤ)). (Lies done v ⊎ (Lies (get_or ps i d ∷ drop (i + 1) ps) v × Lies ys v)) ↔ (Lies next v ⊎ (Lies (drop (i + 1) ps) v × Lies ys v))) (sym f)
          (next_lies done next (get_or ps i d) (get_or qs j d) (drop (i + 1) ps) (drop (j + 1) qs) m n v s u b'.2)));
    }

pub collects_all : (ps qs : List (ℤ × ℤ)) (i j : ℕ) (done : List (ℤ × ℤ)) (v : ℤ) → length ps ≤ i → Collects ps qs i j done → Lies done v ↔ (Lies ps v × Lies qs v)
collects_all ps qs i j done v h c = (λ k. (c.lies v).1 (inl k), λ k. left ((c.lies v).0 k))
  where
    left : Lies done v ⊎ (Lies (drop i ps) v × Lies (drop j qs) v) → Lies done v
    left (inl k) = k
    left (inr k) = absurd (subst (λ (xs : List (ℤ × ℤ)). Lies xs v) (drop_all i ps h) k.0)

-- ---- what the code computes, by the words

pub word_max : (ps qs : List (ℤ × ℤ)) (i j : ℕ) (d : ℤ × ℤ) (m : ℤ) → IsDomain ps → IsDomain qs → i < length ps → j < length qs
    → m ≡ int_max (to_z w64 (of_z w64 (get_or ps i d).0)) (to_z w64 (of_z w64 (get_or qs j d).0)) → to_z w64 (of_z w64 m) ≡ int_max (get_or ps i d).0 (get_or qs j d).0
word_max ps qs i j d m a b h k e =
    let v = within ps lower_limit upper_limit i d a.apart h in
    let w = within qs lower_limit upper_limit j d b.apart k in
    let f : m ≡ int_max (get_or ps i d).0 (get_or qs j d).0 = e ∙ ap (λ z. int_max z (to_z w64 (of_z w64 (get_or qs j d).0))) (begin_word ps i d a h) ∙ ap (int_max (get_or ps i d).0) (begin_word qs j d b k) in
    word_is m (omega (arith, ints, clamps, f, v.above, w.above)) (omega (arith, ints, clamps, f, v.below, w.below, v.upward, w.upward)) ∙ f

pub word_min : (ps qs : List (ℤ × ℤ)) (i j : ℕ) (d : ℤ × ℤ) (n : ℤ) → IsDomain ps → IsDomain qs → i < length ps → j < length qs
    → n ≡ int_min (to_z w64 (of_z w64 (get_or ps i d).1)) (to_z w64 (of_z w64 (get_or qs j d).1)) → to_z w64 (of_z w64 n) ≡ int_min (get_or ps i d).1 (get_or qs j d).1
word_min ps qs i j d n a b h k e =
    let v = within ps lower_limit upper_limit i d a.apart h in
    let w = within qs lower_limit upper_limit j d b.apart k in
    let f : n ≡ int_min (get_or ps i d).1 (get_or qs j d).1 = e ∙ ap (λ z. int_min z (to_z w64 (of_z w64 (get_or qs j d).1))) (end_word ps i d a h) ∙ ap (int_min (get_or ps i d).1) (end_word qs j d b k) in
    word_is n (omega (arith, ints, clamps, f, v.above, w.above, v.upward, w.upward)) (omega (arith, ints, clamps, f, v.below, w.below)) ∙ f

pub shared_left : (p q : ℤ × ℤ) (m n : ℤ) → m ≡ int_max p.0 q.0 → n ≡ int_min p.1 q.1 → p.1 ≤ℤ q.1 → IsSharedBy p q m n
shared_left p q m n e f h = record {
  left = omega (arith, ints, clamps, e);
  right = omega (arith, ints, clamps, e);
  least = λ v l r. omega (arith, ints, clamps, e, l, r);
  ends = omega (arith, ints, clamps, f, h);
  first = h;
}

pub shared_right : (p q : ℤ × ℤ) (m n : ℤ) → m ≡ int_max p.0 q.0 → n ≡ int_min p.1 q.1 → q.1 ≤ℤ p.1 → IsSharedBy q p m n
shared_right p q m n e f h = record {
  left = omega (arith, ints, clamps, e);
  right = omega (arith, ints, clamps, e);
  least = λ v l r. omega (arith, ints, clamps, e, l, r);
  ends = omega (arith, ints, clamps, f, h);
  first = h;
}
