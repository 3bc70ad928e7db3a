-- Going through a work and splitting it loses no leaf and makes none twice.
use Rattle.std.proofs.Common.{◌≡◌, ℕ, zero, suc, ◌-◌, ◌<◌, ◌≤◌, Bool, true, false, cond, List, [], ◌∷◌, ◌++◌, Option, Some, None, refl, ap, sym, ◌∙◌, subst, inl, inr, arith, append_assoc, append-nil}
use Rattle.std.proofs.lemmas.Bool.{ltb-true, ltb-false}
use Rattle.pp_algebra.specs.Covers.{IsIn}
use Rattle.pp_algebra.proofs.Order.{IsIn-left, IsIn-right}
use Rattle.pp_algebra.proofs.Antisym.{IsIn-either}
use Rattle.pp_sld.specs.Trees.{Search, answer, loose, refused, passed, choice, Searches, no_more, child, failed}
use Rattle.pp_sld.specs.Trace.{Leaf, leaves, leaves_all}
use Rattle.pp_sld.specs.Paths.{kids, skip, count_kids, of_first, at_path, ComesTo, FirstIs, PathComesTo}
use Rattle.pp_sld.specs.Works.{Level, Work, spent, at, level, places, first_few, between, levels_worth, worth, path_worth, has_sibling, siblings, moved, next_levels, work_of, behind, split_levels, works_of}
use Rattle.pp_sld.specs.LawsOfWorks.{NextKeeps, LastIsPath, SplitKeeps, DownKeeps, WorthIsInside}
use Rattle.pp_sld.proofs.LeafRows.{leaves-child}

skip_suc : (n : ℕ) (ts : Searches) → skip (suc n) ts ≡ skip 1 (skip n ts)
skip_suc zero ts = refl
skip_suc (suc n) no_more = refl
skip_suc (suc n) (child t ts) = skip_suc n ts
skip_suc (suc n) (failed ts) = skip_suc n ts

first_and_rest : (m : ℕ) (ts : Searches) → leaves_all (first_few (suc m) ts) ≡ of_first leaves ts ++ leaves_all (first_few m (skip 1 ts))
first_and_rest zero no_more = refl
first_and_rest (suc m) no_more = refl
first_and_rest m (child t ts) = leaves-child t (first_few m ts)
first_and_rest m (failed ts) = refl

all_of : (ts : Searches) → first_few (count_kids ts) ts ≡ ts
all_of no_more = refl
all_of (child t ts) = ap (child t) (all_of ts)
all_of (failed ts) = ap failed (all_of ts)

-- the siblings that are left are the next one and those after it
next_and_rest : (now end : ℕ) (ts : Searches) → now < end → leaves_all (between now end ts) ≡ of_first leaves (skip now ts) ++ leaves_all (between (suc now) end ts)
next_and_rest now end ts h =
    let e : end - now ≡ suc (end - suc now) = omega arith in
    ap (λ n. leaves_all (first_few n (skip now ts))) e ∙ first_and_rest (end - suc now) (skip now ts) ∙ ap (λ x. of_first leaves (skip now ts) ++ leaves_all (first_few (end - suc now) x)) (sym (skip_suc now ts))

none_left : (now end : ℕ) (ts : Searches) → end ≤ now → leaves_all (between now end ts) ≡ []
none_left now end ts h = let e : end - now ≡ 0 = omega arith in ap (λ n. leaves_all (first_few n (skip now ts))) e

of_first-both : (f g h : Search → List Leaf) → ((t : Search) → f t ≡ g t ++ h t) → (ts : Searches) → of_first f ts ≡ of_first g ts ++ of_first h ts
of_first-both f g h e no_more = refl
of_first-both f g h e (child t ts) = e t
of_first-both f g h e (failed ts) = refl

-- the leaves of the siblings that are left at a level
abbrev left_at : Level → Search → List Leaf
left_at l t = leaves_all (between (suc l.now) l.end (kids t))

some_left : (l : Level) (t : Search) → has_sibling l ≡ true → left_at l t ≡ levels_worth (siblings l ∷ []) t
some_left l t e = next_and_rest (suc l.now) l.end (kids t) (ltb-true (suc l.now) l.end e)

nothing_left : (l : Level) (t : Search) → has_sibling l ≡ false → left_at l t ≡ []
nothing_left l t e = none_left (suc l.now) l.end (kids t) (ltb-false (suc l.now) l.end e)

-- without siblings a level adds nothing
alone : (l : Level) (ls : List Level) (t : Search) → has_sibling l ≡ false → levels_worth (l ∷ ls) t ≡ of_first (levels_worth ls) (skip l.now (kids t))
alone l ls t e = let x = of_first (levels_worth ls) (skip l.now (kids t)) in ap (λ z. x ++ z) (nothing_left l t e) ∙ append-nil x

of_first-same : (f g : Search → List Leaf) → ((t : Search) → f t ≡ g t) → (ts : Searches) → of_first f ts ≡ of_first g ts
of_first-same f g e no_more = refl
of_first-same f g e (child t ts) = e t
of_first-same f g e (failed ts) = refl

-- ===== next

module _ (l : Level) (ls : List Level) where
  abbrev here : Search → List Leaf
  here t = of_first (at_path (places ls)) (skip l.now (kids t))

  last_moves : (b : Bool) (t : Search) → has_sibling l ≡ b → left_at l t ≡ worth (work_of (cond b (Some (siblings l ∷ [])) None)) t
  last_moves true t e = some_left l t e
  last_moves false t e = nothing_left l t e

  moves : (o : Option (List Level)) → ((u : Search) → levels_worth ls u ≡ at_path (places ls) u ++ worth (work_of o) u) → (t : Search) → levels_worth (l ∷ ls) t ≡ here t ++ worth (work_of (moved l o)) t
  moves (Some ks) h t =
      ap (λ x. x ++ left_at l t) (of_first-both (levels_worth ls) (at_path (places ls)) (levels_worth ks) h (skip l.now (kids t))) ∙ append_assoc (here t) (of_first (levels_worth ks) (skip l.now (kids t))) (left_at l t)
  moves None h t =
      ap (λ x. x ++ left_at l t) (of_first-same (levels_worth ls) (at_path (places ls)) (λ u. h u ∙ append-nil (at_path (places ls) u)) (skip l.now (kids t)))
      ∙ ap (λ x. here t ++ x) (last_moves (has_sibling l) t refl)

next_levels-worth : (ls : List Level) (t : Search) → levels_worth ls t ≡ at_path (places ls) t ++ worth (work_of (next_levels ls)) t
next_levels-worth [] t = sym (append-nil (leaves t))
next_levels-worth (l ∷ ls) t = moves l ls (next_levels ls) (next_levels-worth ls) t

pub next_keeps : NextKeeps
next_keeps spent t = refl
next_keeps (at ls) t = next_levels-worth ls t

pub last_is_path : LastIsPath
last_is_path w t e = next_keeps w t ∙ ap (λ v. path_worth w t ++ worth v t) e ∙ append-nil (path_worth w t)

-- ===== split

abbrev Parts : (Search → List Leaf) → Option (List Level × List Level) → Type 0
Parts f None = Unit {0}
Parts f (Some p) = (t : Search) → f t ≡ levels_worth p.0 t ++ levels_worth p.1 t

module _ (l : Level) (ls : List Level) where
  here_parts : has_sibling l ≡ true → Parts (levels_worth (l ∷ ls)) (Some (level l.now (suc l.now) ∷ ls, siblings l ∷ []))
  here_parts e = λ t.
      let x = of_first (levels_worth ls) (skip l.now (kids t)) in
      ap (λ z. x ++ z) (some_left l t e) ∙ ap (λ z. z ++ levels_worth (siblings l ∷ []) t) (sym (append-nil x) ∙ ap (λ z. x ++ z) (sym (none_left (suc l.now) (suc l.now) (kids t) (omega arith))))

  below_parts : has_sibling l ≡ false → (o : Option (List Level × List Level)) → Parts (levels_worth ls) o → Parts (levels_worth (l ∷ ls)) (behind l o)
  below_parts e None h = tt
  below_parts e (Some p) h = λ t.
      alone l ls t e ∙ of_first-both (levels_worth ls) (levels_worth p.0) (levels_worth p.1) h (skip l.now (kids t))
      ∙ ap (λ z. z ++ of_first (levels_worth p.1) (skip l.now (kids t))) (sym (alone l p.0 t e))
      ∙ ap (λ z. levels_worth (l ∷ p.0) t ++ z) (sym (alone l p.1 t e))

  parts : (b : Bool) → has_sibling l ≡ b → (o : Option (List Level × List Level)) → Parts (levels_worth ls) o → Parts (levels_worth (l ∷ ls)) (cond b (Some (level l.now (suc l.now) ∷ ls, siblings l ∷ [])) (behind l o))
  parts true e o h = here_parts e
  parts false e o h = below_parts e o h

split_levels-parts : (ls : List Level) → Parts (levels_worth ls) (split_levels ls)
split_levels-parts [] = tt
split_levels-parts (l ∷ ls) = parts l ls (has_sibling l) refl (split_levels ls) (split_levels-parts ls)

splits : (ls : List Level) (o : Option (List Level × List Level)) (a b : Work) (t : Search) → Parts (levels_worth ls) o → works_of o ≡ Some (a, b) → levels_worth ls t ≡ worth a t ++ worth b t
splits ls None a b t h e = absurd (cc e)
splits ls (Some p) a b t h e =
    let f : (at p.0, at p.1) ≡ (a, b) = cc e in
    let i : at p.0 ≡ a = ap (λ (x : Work × Work). x.0) f in
    let j : at p.1 ≡ b = ap (λ (x : Work × Work). x.1) f in
    h t ∙ ap (λ w. worth w t ++ levels_worth p.1 t) i ∙ ap (λ w. worth a t ++ worth w t) j

pub split_keeps : SplitKeeps
split_keeps spent a b t e = absurd (cc e)
split_keeps (at ls) a b t e = splits ls (split_levels ls) a b t (split_levels-parts ls) e

-- ===== down

leaves_of_kids : (n : ℕ) (t : Search) → ComesTo n t → (leaves t ≡ leaves_all (kids t)) × (count_kids (kids t) ≡ n)
leaves_of_kids n (answer c) h = absurd h
leaves_of_kids n (loose c) h = absurd h
leaves_of_kids n refused h = absurd h
leaves_of_kids n (passed t) h = leaves_of_kids n t h
leaves_of_kids n (choice ts) h = (refl, h)

none_there : (ts : Searches) → count_kids ts ≡ 0 → ts ≡ no_more
none_there no_more e = refl
none_there (child t ts) e = absurd (omega (arith, e))
none_there (failed ts) e = absurd (omega (arith, e))

down_here : (n : ℕ) (t : Search) → ComesTo n t → levels_worth (level 0 n ∷ []) t ≡ leaves t
down_here zero t h =
    let k = leaves_of_kids zero t h in
    let e = none_there (kids t) k.1 in
    ap (λ ts. of_first leaves ts ++ leaves_all (between 1 0 ts)) e ∙ sym (k.0 ∙ ap leaves_all e)
down_here (suc n) t h =
    let k = leaves_of_kids (suc n) t h in
    sym (next_and_rest 0 (suc n) (kids t) (omega arith)) ∙ ap (λ m. leaves_all (first_few m (kids t))) (let e : suc n - 0 ≡ count_kids (kids t) = omega (arith, k.1) in e) ∙ ap leaves_all (all_of (kids t)) ∙ sym k.0

down_first : (f g : Search → List Leaf) (p : Search → Type 0) → ((t : Search) → p t → f t ≡ g t) → (ts : Searches) → FirstIs p ts → of_first f ts ≡ of_first g ts
down_first f g p e no_more h = absurd h
down_first f g p e (child t ts) h = e t h
down_first f g p e (failed ts) h = absurd h

pub down_levels : (ls : List Level) (n : ℕ) (t : Search) → PathComesTo n (places ls) t → levels_worth (ls ++ level 0 n ∷ []) t ≡ levels_worth ls t
down_levels [] n t h = down_here n t h
down_levels (l ∷ ls) n t h = ap (λ x. x ++ left_at l t) (down_first (levels_worth (ls ++ level 0 n ∷ [])) (levels_worth ls) (PathComesTo n (places ls)) (down_levels ls n) (skip l.now (kids t)) h)

pub down_keeps : DownKeeps
down_keeps ls n t h = down_levels ls n t h

-- ===== a leaf of a work is a leaf of the tree

abbrev Inside : List Leaf → List Leaf → Type 0
Inside xs ys = (x : Leaf) → IsIn x xs → IsIn x ys

of-child : (t : Search) (ts : Searches) → Inside (leaves t) (leaves_all (child t ts))
of-child t ts x i = subst (IsIn x) (sym (leaves-child t ts)) (IsIn-left x (leaves t) (leaves_all ts) i)

of-others : (t : Search) (ts : Searches) → Inside (leaves_all ts) (leaves_all (child t ts))
of-others t ts x i = subst (IsIn x) (sym (leaves-child t ts)) (IsIn-right x (leaves t) (leaves_all ts) i)

of-kids : (t : Search) → Inside (leaves_all (kids t)) (leaves t)
of-kids (answer c) x i = absurd i
of-kids (loose c) x i = absurd i
of-kids refused x i = absurd i
of-kids (passed t) x i = of-kids t x i
of-kids (choice ts) x i = i

of-skip : (n : ℕ) (ts : Searches) → Inside (leaves_all (skip n ts)) (leaves_all ts)
of-skip zero ts x i = i
of-skip (suc n) no_more x i = absurd i
of-skip (suc n) (child t ts) x i = of-others t ts x (of-skip n ts x i)
of-skip (suc n) (failed ts) x i = of-skip n ts x i

of-few : (n : ℕ) (ts : Searches) → Inside (leaves_all (first_few n ts)) (leaves_all ts)
of-few zero ts x i = absurd i
of-few (suc n) no_more x i = absurd i
of-few (suc n) (child t ts) x i = elim (IsIn-either x (leaves t) (leaves_all (first_few n ts)) (subst (IsIn x) (leaves-child t (first_few n ts)) i)) [
  | inl j ↦ of-child t ts x j
  | inr j ↦ of-others t ts x (of-few n ts x j)
]
of-few (suc n) (failed ts) x i = of-few n ts x i

of-first : (f : Search → List Leaf) → ((t : Search) → Inside (f t) (leaves t)) → (ts : Searches) → Inside (of_first f ts) (leaves_all ts)
of-first f h no_more x i = absurd i
of-first f h (child t ts) x i = of-child t ts x (h t x i)
of-first f h (failed ts) x i = absurd i

levels-inside : (ls : List Level) (t : Search) → Inside (levels_worth ls t) (leaves t)
levels-inside [] t x i = i
levels-inside (l ∷ ls) t x i = of-kids t x (elim (IsIn-either x (of_first (levels_worth ls) (skip l.now (kids t))) (left_at l t) i) [
  | inl j ↦ of-skip l.now (kids t) x (of-first (levels_worth ls) (levels-inside ls) (skip l.now (kids t)) x j)
  | inr j ↦ of-skip (suc l.now) (kids t) x (of-few (l.end - suc l.now) (skip (suc l.now) (kids t)) x j)
])

pub worth_inside : WorthIsInside
worth_inside spent t x i = absurd i
worth_inside (at ls) t x i = levels-inside ls t x i
