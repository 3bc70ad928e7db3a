-- The order of works, and what can be split.
use Rattle.std.proofs.Common.{◌≡◌, ℕ, suc, Bool, true, false, cond, List, [], ◌∷◌, Option, Some, None, refl, ap, sym, ◌∙◌, subst, ◌⊎◌, inl, inr, arith}
use Rattle.pp_sld.specs.Works.{Level, Work, spent, at, level, places, has_sibling, siblings, moved, next_levels, work_of, behind, split_levels, works_of, ComesAfter, IsLater}
use Rattle.pp_sld.specs.LawsOfWorks.{SplitsWhereNext, NoneIsLater, LaterThrough, NextIsLater, DownIsLater, SplitIsLater}

never_after : (ks : List ℕ) → ComesAfter ks ks → ⊥
never_after [] h = h
never_after (k ∷ ks) (inl h) = omega (arith, h)
never_after (k ∷ ks) (inr h) = never_after ks h.1

after_through : (is js ks : List ℕ) → ComesAfter is js → ComesAfter js ks → ComesAfter is ks
after_through [] js ks h k = absurd h
after_through (i ∷ is) [] ks h k = absurd k
after_through (i ∷ is) (j ∷ js) [] h k = tt
after_through (i ∷ is) (j ∷ js) (k ∷ ks) (inl h) (inl l) = inl (omega (arith, h, l))
after_through (i ∷ is) (j ∷ js) (k ∷ ks) (inl h) (inr l) = inl (omega (arith, h, l.0))
after_through (i ∷ is) (j ∷ js) (k ∷ ks) (inr h) (inl l) = inl (omega (arith, h.0, l))
after_through (i ∷ is) (j ∷ js) (k ∷ ks) (inr h) (inr l) = inr (h.0 ∙ l.0, after_through is js ks h.1 l.1)

pub none_is_later : NoneIsLater
none_is_later spent h = h
none_is_later (at ls) h = never_after (places ls) h

pub later_through : LaterThrough
later_through spent v w h k = absurd h
later_through (at us) spent w h k = absurd h
later_through (at us) (at vs) spent h k = absurd k
later_through (at us) (at vs) (at ws) h k = after_through (places us) (places vs) (places ws) h k

-- ===== next

abbrev AfterIfSome : Option (List Level) → List Level → Type 0
AfterIfSome None ls = Unit {0}
AfterIfSome (Some ks) ls = ComesAfter (places ks) (places ls)

last_after : (l : Level) (ls : List Level) (b : Bool) → AfterIfSome (cond b (Some (siblings l ∷ [])) None) (l ∷ ls)
last_after l ls true = inl (omega arith)
last_after l ls false = tt

moved_after : (l : Level) (ls : List Level) (o : Option (List Level)) → AfterIfSome o ls → AfterIfSome (moved l o) (l ∷ ls)
moved_after l ls (Some ks) h = inr (refl, h)
moved_after l ls None h = last_after l ls (has_sibling l)

next_after : (ls : List Level) → AfterIfSome (next_levels ls) ls
next_after [] = tt
next_after (l ∷ ls) = moved_after l ls (next_levels ls) (next_after ls)

later_or_spent : (ls : List Level) (o : Option (List Level)) → AfterIfSome o ls → (work_of o ≡ spent) ⊎ IsLater (work_of o) (at ls)
later_or_spent ls None h = inl refl
later_or_spent ls (Some ks) h = inr h

pub next_is_later : NextIsLater
next_is_later spent = inl refl
next_is_later (at ls) = later_or_spent ls (next_levels ls) (next_after ls)

-- ===== down

pub down_is_later : DownIsLater
down_is_later [] n = tt
down_is_later (l ∷ ls) n = inr (refl, down_is_later ls n)

-- ===== split

abbrev AfterIfTwo : Option (List Level × List Level) → List Level → Type 0
AfterIfTwo None ls = Unit {0}
AfterIfTwo (Some p) ls = (places p.0 ≡ places ls) × ComesAfter (places p.1) (places ls)

behind_after : (l : Level) (ls : List Level) (o : Option (List Level × List Level)) → AfterIfTwo o ls → AfterIfTwo (behind l o) (l ∷ ls)
behind_after l ls None h = tt
behind_after l ls (Some p) h = (ap (λ x. l.now ∷ x) h.0, inr (refl, h.1))

here_after : (l : Level) (ls : List Level) (b : Bool) (o : Option (List Level × List Level)) → AfterIfTwo o ls → AfterIfTwo (cond b (Some (level l.now (suc l.now) ∷ ls, siblings l ∷ [])) (behind l o)) (l ∷ ls)
here_after l ls true o h = (refl, inl (omega arith))
here_after l ls false o h = behind_after l ls o h

split_after : (ls : List Level) → AfterIfTwo (split_levels ls) ls
split_after [] = tt
split_after (l ∷ ls) = here_after l ls (has_sibling l) (split_levels ls) (split_after ls)

two_after : (ls ks js : List Level) (o : Option (List Level × List Level)) → AfterIfTwo o ls → works_of o ≡ Some (at ks, at js) → (places ks ≡ places ls) × ComesAfter (places js) (places ls)
two_after ls ks js None h e = absurd (cc e)
two_after ls ks js (Some p) h e =
    let f : (at p.0, at p.1) ≡ (at ks, at js) = cc e in
    let i0 : at p.0 ≡ at ks = ap (λ (x : Work × Work). x.0) f in
    let j0 : at p.1 ≡ at js = ap (λ (x : Work × Work). x.1) f in
    let i : p.0 ≡ ks = cc i0 in
    let j : p.1 ≡ js = cc j0 in
    (ap places (sym i) ∙ h.0, subst (λ x. ComesAfter (places x) (places ls)) j h.1)

pub split_is_later : SplitIsLater
split_is_later ls ks js e = two_after ls ks js (split_levels ls) (split_after ls) e

-- ===== what can be split

abbrev Alike : Option (List Level × List Level) → Option (List Level) → Type 0
Alike None None = Unit {0}
Alike None (Some q) = ⊥
Alike (Some p) None = ⊥
Alike (Some p) (Some q) = Unit {0}

here_alike : (l : Level) (ls : List Level) (b : Bool) (o : Option (List Level × List Level)) (q : Option (List Level)) → has_sibling l ≡ b → Alike o q → Alike (cond b (Some (level l.now (suc l.now) ∷ ls, siblings l ∷ [])) (behind l o)) (moved l q)
here_alike l ls true o (Some q) e h = tt
here_alike l ls true o None e h = subst (λ b. Alike (Some (level l.now (suc l.now) ∷ ls, siblings l ∷ [])) (cond b (Some (siblings l ∷ [])) None)) (sym e) tt
here_alike l ls false None None e h = subst (λ b. Alike None (cond b (Some (siblings l ∷ [])) None)) (sym e) tt
here_alike l ls false None (Some q) e h = absurd h
here_alike l ls false (Some p) None e h = absurd h
here_alike l ls false (Some p) (Some q) e h = tt

all_alike : (ls : List Level) → Alike (split_levels ls) (next_levels ls)
all_alike [] = tt
all_alike (l ∷ ls) = here_alike l ls (has_sibling l) (split_levels ls) (next_levels ls) refl (all_alike ls)

either : (o : Option (List Level × List Level)) (n : Option (List Level)) → Alike o n → ((works_of o ≡ None) × (work_of n ≡ spent)) ⊎ ((p : Work × Work) × (q : List Level) × (works_of o ≡ Some p) × (work_of n ≡ at q))
either None None h = inl (refl, refl)
either None (Some q) h = absurd h
either (Some p) None h = absurd h
either (Some p) (Some q) h = inr ((at p.0, at p.1), q, refl, refl)

pub splits_where_next : SplitsWhereNext
splits_where_next spent = inl (refl, refl)
splits_where_next (at ls) = either (split_levels ls) (next_levels ls) (all_alike ls)
