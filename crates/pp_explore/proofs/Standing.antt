-- A walker stands over a path, one step further and back, and where it misses.
use Rattle.std.proofs.Common.{◌≡◌, ℕ, zero, suc, ◌-◌, ◌<◌, ◌≤◌, arith, Bool, true, false, List, [], ◌∷◌, ◌++◌, length, reverse, take, drop, length-drop, Option, Some, None, IsSome, option_to_list, Result, Ok, Err, IfOk, OnErr, refl, ap, sym, ◌∙◌, subst, inl, inr}
use Rattle.std.specs.List.{slice_get}
use Rattle.std.proofs.lemmas.List.{reverse-reverse, length-reverse, take-append-le}
use Rattle.pp_sld.specs.Goals.{Program, Config}
use Rattle.pp_sld.specs.Ways.{Way}
use Rattle.pp_sld.specs.Reach.{Stands, Misses}
use Rattle.pp_sld.proofs.Standing.{stands_went, stands_chose, misses_dead, misses_place, misses_end}
use Rattle.pp_walk.specs.Places.{Place}
use Rattle.pp_walk.specs.Moves.{Stepped, IsAtChoice, HasChoice, IsDeadAt, Chose, WentBack}
use Rattle.pp_walk.specs.declared.event.Event.TheVariants.{Went}
use Rattle.pp_explore.specs.Standing.{AreAbove, StandsOver, StaysOver, MissesOver, back_by, Took, Comes}
use Rattle.pp_explore.proofs.Levels.{reverse-snoc, length-snoc}

-- ===== so many choices back

pub back_at_root : (n : ℕ) (e : Config) → back_by n [] e ≡ record { above = []; here = e }
back_at_root zero e = refl
back_at_root (suc n) e = refl

pub back_once_more : (n : ℕ) (p q : Place) (b : Bool) → WentBack p b q → back_by n q.above q.here ≡ back_by (suc n) p.above p.here
back_once_more n p q true h = ap (λ x. back_by (suc n) x p.here) (sym h)
back_once_more n p q false h =
    ap (λ (x : Place). back_by n x.above x.here) h.1
    ∙ (ap (λ x. back_by n x p.here) h.0
    ∙ (back_at_root n p.here ∙ ap (λ x. back_by (suc n) x p.here) (sym h.0)))

-- one of them, on the way back to a depth
pub back_nearer : (depth : ℕ) (p q : Place) (b : Bool) (ks js : List ℕ) (o : Option ℕ) → ks ≡ js ++ option_to_list o → IsSome o → WentBack p b q → depth < length ks
    → (take depth js ≡ take depth ks) × (back_by (length js - depth) q.above q.here ≡ back_by (length ks - depth) p.above p.here)
back_nearer depth p q b ks js None e n h d = absurd (cc n)
back_nearer depth p q b ks js (Some k) e n h d =
    let many : length ks ≡ suc (length js) = ap length e ∙ length-snoc js k in
    let more : suc (length js - depth) ≡ length ks - depth = omega (arith, many, d) in (
      sym (ap (take depth) e ∙ take-append-le depth js (k ∷ []) (omega (arith, many, d))),
      back_once_more (length js - depth) p q b h ∙ ap (λ x. back_by x p.above p.here) more,
    )

pub take-all : {A : Type 0} (n : ℕ) (xs : List A) → length xs ≤ n → take n xs ≡ xs
take-all zero [] h = refl
take-all zero (x ∷ xs) h = absurd (omega (arith, h))
take-all (suc n) [] h = refl
take-all (suc n) (x ∷ xs) h = ap (λ u. x ∷ u) (take-all n xs (omega (arith, h)))

pub take-rest : {A : Type 0} (n : ℕ) (xs : List A) → take (length xs - n) (drop n xs) ≡ drop n xs
take-rest n xs = take-all (length xs - n) (drop n xs) (omega (arith, length-drop n xs))

-- at that depth
pub back_there : (depth : ℕ) (p : Place) (ks : List ℕ) → length ks ≤ depth → (take depth ks ≡ ks) × (back_by (length ks - depth) p.above p.here ≡ p)
back_there depth p ks h = let none : length ks - depth ≡ 0 = omega (arith, h) in (take-all depth ks h, ap (λ x. back_by x p.above p.here) none)

module _ (clauses : Program) where
  pub slice_none : (ws : List Way) (k : ℕ) → length ws ≤ k → slice_get ws k ≡ None
  slice_none [] zero h = refl
  slice_none [] (suc k) h = refl
  slice_none (w ∷ ws) zero h = absurd (omega (arith, h))
  slice_none (w ∷ ws) (suc k) h = slice_none ws k (omega (arith, h))

  pub slice_within : (ws : List Way) (k : ℕ) (w : Way) → slice_get ws k ≡ Some w → k < length ws
  slice_within [] k w e = absurd (cc e)
  slice_within (v ∷ ws) zero w e = omega arith
  slice_within (v ∷ ws) (suc k) w e = omega (arith, slice_within ws k w e)

  module _ (root : Config) where
    pub length-above : (cs : List Config) (ks : List ℕ) → AreAbove clauses root cs ks → length cs ≡ length ks
    length-above [] [] h = refl
    length-above [] (k ∷ ks) h = absurd h
    length-above (c ∷ cs) [] h = absurd h
    length-above (c ∷ cs) (k ∷ ks) h = ap suc (length-above cs ks h.2)

    pub length-over : (p : Place) (ks : List ℕ) → StandsOver clauses root p ks → length p.above ≡ length ks
    length-over p ks h = length-above p.above (reverse ks) h.1 ∙ length-reverse ks

    -- past a built-in
    pub over_went : (p q : Place) (ks : List ℕ) → Stepped clauses p Went q → StandsOver clauses root p ks → StandsOver clauses root q ks
    over_went p q ks h s = (stands_went clauses root ks p.here h.0 q.here s.0 h.1 h.2, subst (λ x. AreAbove clauses root x (reverse ks)) (sym h.3) s.1)

    -- an alternative was taken
    pub over_chose : (p q : Place) (ks : List ℕ) (k : ℕ) → Chose clauses p k true q → StandsOver clauses root p ks → StandsOver clauses root q (ks ++ k ∷ [])
    over_chose p q ks k h s = (
      stands_chose clauses root ks p.here k q.here s.0 h.0,
      subst (λ x. AreAbove clauses root x (reverse (ks ++ k ∷ []))) (sym h.1)
          (subst (AreAbove clauses root (p.here ∷ p.above)) (sym (reverse-snoc ks k))
          ((h.0.0, h.0.1), subst (λ x. Stands clauses root x p.here) (sym (reverse-reverse ks)) s.0, s.1)),
    )

    -- and back
    over_back : (p q : Place) (js : List ℕ) (k : ℕ) (cs : List Config) (b : Bool) → p.above ≡ cs → WentBack p b q → AreAbove clauses root cs (k ∷ reverse js) → StandsOver clauses root q js
    over_back p q js k [] b e h a = absurd a
    over_back p q js k (c ∷ cs) true e h a =
        let g : q.here ∷ q.above ≡ c ∷ cs = sym h ∙ e in
        let i : q.here ≡ c = cc g in
        let j : q.above ≡ cs = cc g in (
          subst (Stands clauses root js) (sym i) (subst (λ x. Stands clauses root x c) (reverse-reverse js) a.1),
          subst (λ x. AreAbove clauses root x (reverse js)) (sym j) a.2,
        )
    over_back p q js k (c ∷ cs) false e h a = absurd (cc (h.0, e))

    pub over_popped : (p q : Place) (b : Bool) (ks js : List ℕ) (o : Option ℕ) → ks ≡ js ++ option_to_list o → IsSome o → WentBack p b q → StandsOver clauses root p ks → StandsOver clauses root q js
    over_popped p q b ks js None e n h s = absurd (cc n)
    over_popped p q b ks js (Some k) e n h s =
        over_back p q js k p.above b refl h (subst (AreAbove clauses root p.above) (ap reverse e ∙ reverse-snoc js k) s.1)

    -- a choice above is one
    choice_above : (n : ℕ) (cs : List Config) (ks : List ℕ) (e : Config) → suc n ≤ length cs → AreAbove clauses root cs ks → IsAtChoice clauses (back_by (suc n) cs e).here
    choice_above n [] ks e h a = absurd (omega (arith, h))
    choice_above n (c ∷ cs) [] e h a = absurd a
    choice_above zero (c ∷ cs) (k ∷ ks) e h a = a.0
    choice_above (suc n) (c ∷ cs) (k ∷ ks) e h a = choice_above n cs ks c (omega (arith, h)) a.2

    pub choice_back : (n : ℕ) (p : Place) (ks : List ℕ) → suc n ≤ length ks → StandsOver clauses root p ks → IsAtChoice clauses (back_by (suc n) p.above p.here).here
    choice_back n p ks h s = choice_above n p.above (reverse ks) p.here (omega (arith, h, length-over p ks s)) s.1

    -- ===== what misses

    pub misses_if_dead : (p : Place) (ks : List ℕ) (k : ℕ) (js : List ℕ) → StandsOver clauses root p ks → IsDeadAt clauses p.here k → Misses clauses root (ks ++ k ∷ js)
    misses_if_dead p ks k js s d = misses_dead clauses root ks p.here d.0 k d.2 js s.0 d.1 d.3 d.4

    pub misses_if_no_place : (p : Place) (ks : List ℕ) (n k : ℕ) (js : List ℕ) → StandsOver clauses root p ks → Comes clauses p.here (Some n) → n ≤ k → Misses clauses root (ks ++ k ∷ js)
    misses_if_no_place p ks n k js s c h = misses_place clauses root ks p.here c.0 k js s.0 c.1 (slice_none c.0 k (omega (arith, h, c.2)))

    pub misses_if_ended : (p : Place) (ks : List ℕ) (k : ℕ) (js : List ℕ) → StandsOver clauses root p ks → Comes clauses p.here None → Misses clauses root (ks ++ k ∷ js)
    misses_if_ended p ks k js s c = elim c [
      | inl e ↦ misses_place clauses root ks p.here [] k js s.0 e (slice_none [] k (omega arith))
      | inr e ↦ misses_end clauses root ks p.here k js s.0 e
    ]

    -- at a choice, an alternative that is dead where it is there at all
    pub misses_if_none : (p : Place) (ks : List ℕ) (k : ℕ) → StandsOver clauses root p ks → IsAtChoice clauses p.here → (HasChoice clauses p.here k → IsDeadAt clauses p.here k) → Misses clauses root (ks ++ k ∷ [])
    misses_if_none p ks k s a d = by_case (slice_get a.0 k) refl
      where
        by_case : (o : Option Way) → slice_get a.0 k ≡ o → Misses clauses root (ks ++ k ∷ [])
        by_case None e = misses_place clauses root ks p.here a.0 k [] s.0 a.1 e
        by_case (Some w) e = misses_if_dead p ks k [] s (d (a.0, a.1, slice_within a.0 k w e))
        -- ===== the same, over whatever root it stood

  pub stays : (p : Place) (ks : List ℕ) (q r : Place) (js is : List ℕ) → StaysOver clauses p ks q js → r ≡ q → is ≡ js → StaysOver clauses p ks r is
  stays p ks q r js is h e f root s = subst (λ (x : Place). StandsOver clauses root x is) (sym e) (subst (StandsOver clauses root q) (sym f) (h root s))

  pub stays_went : (p : Place) (ks : List ℕ) (q r : Place) (js : List ℕ) → StaysOver clauses p ks q js → Stepped clauses q Went r → StaysOver clauses p ks r js
  stays_went p ks q r js h e root s = over_went root q r js e (h root s)

  pub stays_popped : (p : Place) (ks : List ℕ) (q r : Place) (b : Bool) (js is : List ℕ) (o : Option ℕ) → StaysOver clauses p ks q js → js ≡ is ++ option_to_list o → IsSome o → WentBack q b r → StaysOver clauses p ks r is
  stays_popped p ks q r b js is o h e n w root s = over_popped root q r b js is o e n w (h root s)

  pub stays_took : (p : Place) (ks : List ℕ) (q r : Place) (js is : List ℕ) (k : ℕ) (b : Bool) → StaysOver clauses p ks q js → Took clauses q js k b r is → StaysOver clauses p ks r is
  stays_took p ks q r js is k true h t root s = subst (StandsOver clauses root r) (sym t.1) (over_chose root q r js k t.0 (h root s))
  stays_took p ks q r js is k false h t root s = subst (λ (x : Place). StandsOver clauses root x is) (sym t.0.1) (subst (StandsOver clauses root q) (sym t.1) (h root s))

  -- an attempt at an alternative, or want of memory
  pub stays_tried : {E : Type 0} (p : Place) (ks : List ℕ) (q r : Place) (js is : List ℕ) (k : ℕ) (x : Result Bool E) → StaysOver clauses p ks q js → IfOk x (λ b. Took clauses q js k b r is) → OnErr x (r ≡ q) → OnErr x (is ≡ js) → StaysOver clauses p ks r is
  stays_tried p ks q r js is k (Ok b) h t e f = stays_took p ks q r js is k b h t
  stays_tried p ks q r js is k (Err y) h t e f = stays p ks q r js is h e f

  missed_by : (p : Place) (ks : List ℕ) (q r : Place) (js is : List ℕ) (k : ℕ) (b : Bool) → js ≡ ks → StaysOver clauses p ks q js → Took clauses q js k b r is → b ≡ false → (ls : List ℕ) → MissesOver clauses p ks (ks ++ k ∷ ls)
  missed_by p ks q r js is k true e h t f ls root s = absurd (cc f)
  missed_by p ks q r js is k false e h t f ls root s = subst (λ x. Misses clauses root (x ++ k ∷ ls)) e (misses_if_dead root q js k ls (h root s) t.0.0)

  pub missed_tried : {E : Type 0} (p : Place) (ks : List ℕ) (q r : Place) (js is : List ℕ) (k : ℕ) (x : Result Bool E) → js ≡ ks → StaysOver clauses p ks q js → IfOk x (λ b. Took clauses q js k b r is) → IfOk x (λ b. b ≡ false → (ls : List ℕ) → MissesOver clauses p ks (ks ++ k ∷ ls))
  missed_tried p ks q r js is k (Ok b) e h t = missed_by p ks q r js is k b e h t
  missed_tried p ks q r js is k (Err y) e h t = tt

  pub missed_no_place : (p : Place) (ks : List ℕ) (q : Place) (n k : ℕ) → StaysOver clauses p ks q ks → Comes clauses q.here (Some n) → n ≤ k → (js : List ℕ) → MissesOver clauses p ks (ks ++ k ∷ js)
  missed_no_place p ks q n k h c i js root s = misses_if_no_place root q ks n k js (h root s) c i

  pub missed_ended : (p : Place) (ks : List ℕ) (q : Place) (k : ℕ) → StaysOver clauses p ks q ks → Comes clauses q.here None → (js : List ℕ) → MissesOver clauses p ks (ks ++ k ∷ js)
  missed_ended p ks q k h c js root s = misses_if_ended root q ks k js (h root s) c

-- what is promised where there is memory
pub map_ok : {A E : Type 0} {P Q : A → Type 0} (r : Result A E) → ((x : A) → P x → Q x) → IfOk r P → IfOk r Q
map_ok (Ok x) f p = f x p
map_ok (Err e) f p = tt
