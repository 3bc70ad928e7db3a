-- How lists of levels move on.
use Rattle.std.proofs.Common.{◌≡◌, ℕ, zero, suc, ◌+◌, ◌-◌, ◌<◌, ◌≤◌, rules, arith, Bool, true, false, cond, List, [], ◌∷◌, ◌++◌, map, length, reverse, take, drop, get_or, Option, Some, None, refl, ap, sym, ◌∙◌, subst, append_assoc}
use Rattle.std.proofs.lemmas.List.{map-append, reverse-append}
use Rattle.std.proofs.Math.Seq.{take-append_seam, get_or-append_seam}
use Rattle.pp_sld.specs.Works.{Level, places, has_sibling, siblings, moved, next_levels}
use Rattle.pp_path.specs.declared.levels.Level.{Level as CodeLevel}
use Rattle.pp_path.specs.Works.{level_by, work_by, levels_of, HasMore}
use Rattle.pp_explore.specs.Standing.{nows}
use Rattle.pp_explore.specs.Searching.{IsPlaceOf}

-- what comes of a path whose last level has a sibling left, or not
pub next_snoc : (ls : List Level) (l : Level) (b : Bool) → has_sibling l ≡ b → next_levels (ls ++ l ∷ []) ≡ cond b (Some (ls ++ siblings l ∷ [])) (next_levels ls)
next_snoc [] l b h = ap (λ c. cond c (Some (siblings l ∷ [])) None) h
next_snoc (m ∷ ls) l true h = ap (moved m) (next_snoc ls l true h)
next_snoc (m ∷ ls) l false h = ap (moved m) (next_snoc ls l false h)

-- some level has a sibling left and goes on to it, and those behind it are dropped
pub record MovesOn (ls ks : List Level) : Type 0 where
  pub front : List Level
  pub last : Level
  pub behind : List Level
  pub old : ls ≡ front ++ last ∷ behind
  pub new : ks ≡ front ++ siblings last ∷ []
  pub sibling : has_sibling last ≡ true

abbrev pub MovesIfSome : List Level → Option (List Level) → Type 0
MovesIfSome ls None = Unit {0}
MovesIfSome ls (Some ks) = MovesOn ls ks

moves_here : (l : Level) (ls : List Level) (b : Bool) → has_sibling l ≡ b → MovesIfSome (l ∷ ls) (cond b (Some (siblings l ∷ [])) None)
moves_here l ls true e = record { front = []; last = l; behind = ls; old = refl; new = refl; sibling = e }
moves_here l ls false e = tt

moves_behind : (l : Level) (ls : List Level) (o : Option (List Level)) → MovesIfSome ls o → MovesIfSome (l ∷ ls) (moved l o)
moves_behind l ls (Some ks) h = record { front = l ∷ h.front; last = h.last; behind = h.behind; old = ap (λ x. l ∷ x) h.old; new = ap (λ x. l ∷ x) h.new; sibling = h.sibling }
moves_behind l ls None h = moves_here l ls (has_sibling l) refl

pub moves_on : (ls : List Level) → MovesIfSome ls (next_levels ls)
moves_on [] = tt
moves_on (l ∷ ls) = moves_behind l ls (next_levels ls) (moves_on ls)

pub sibling_is_before : (l : Level) → has_sibling l ≡ true → suc l.now < l.end
sibling_is_before l h = search rules

-- ===== lists

pub places-append : (ls ks : List Level) → places (ls ++ ks) ≡ places ls ++ places ks
places-append ls ks = map-append (λ l. l.now) ls ks

pub length-places : (ls : List Level) → length (places ls) ≡ length ls
length-places [] = refl
length-places (l ∷ ls) = ap suc (length-places ls)

pub length-snoc : {A : Type 0} (xs : List A) (x : A) → length (xs ++ x ∷ []) ≡ suc (length xs)
length-snoc [] x = refl
length-snoc (y ∷ xs) x = ap suc (length-snoc xs x)

pub reverse-snoc : {A : Type 0} (xs : List A) (x : A) → reverse (xs ++ x ∷ []) ≡ x ∷ reverse xs
reverse-snoc xs x = reverse-append xs (x ∷ [])

pub reverse-middle : {A : Type 0} (xs : List A) (y : A) (zs : List A) → reverse (xs ++ y ∷ zs) ≡ reverse zs ++ y ∷ reverse xs
reverse-middle xs y zs = reverse-append xs (y ∷ zs) ∙ ap (λ u. u ++ reverse xs) (reverse-append (y ∷ []) zs) ∙ append_assoc (reverse zs) (y ∷ []) (reverse xs)

-- the beginning of the path of a list of levels
pub take-places : (ls front : List Level) (l : Level) (behind : List Level) → ls ≡ front ++ l ∷ behind → take (length front) (places ls) ≡ places front
take-places ls front l behind e =
    ap (λ x. take (length front) (places x)) e
    ∙ (ap (take (length front)) (places-append front (l ∷ behind))
    ∙ (ap (λ n. take n (places front ++ places (l ∷ behind))) (sym (length-places front))
    ∙ take-append_seam (places front) (places (l ∷ behind))))

pub same-last : {A : Type 0} (xs ys : List A) (x y : A) → xs ++ x ∷ [] ≡ ys ++ y ∷ [] → x ≡ y
same-last xs ys x y e = let h : x ∷ reverse xs ≡ y ∷ reverse ys = sym (reverse-snoc xs x) ∙ (ap reverse e ∙ reverse-snoc ys y) in cc h

-- a list that isn't empty, and its last element
pub record EndsWith {A : Type 0} (xs : List A) : Type 0 where
  pub front : List A
  pub last : A
  pub is : xs ≡ front ++ last ∷ []

pub ends_with : {A : Type 0} (xs : List A) → 1 ≤ length xs → EndsWith xs
ends_with [] h = absurd (omega (arith, h))
ends_with (x ∷ []) h = record { front = []; last = x; is = refl }
ends_with (x ∷ (y ∷ xs)) h = let r = ends_with (y ∷ xs) (omega arith) in record { front = x ∷ r.front; last = r.last; is = ap (λ u. x ∷ u) r.is }

pub last_of : {A : Type 0} (xs front : List A) (last d : A) → xs ≡ front ++ last ∷ [] → get_or xs (length xs - 1) d ≡ last
last_of xs front last d e =
    let n : length xs - 1 ≡ length front = omega (arith, ap length e, length-snoc front last) in
    ap (λ i. get_or xs i d) n ∙ (ap (λ ys. get_or ys (length front) d) e ∙ get_or-append_seam front last [] d)

pub front_of : {A : Type 0} (xs front : List A) (last : A) → xs ≡ front ++ last ∷ [] → take (length xs - 1) xs ≡ front
front_of xs front last e =
    let n : length xs - 1 ≡ length front = omega (arith, ap length e, length-snoc front last) in
    ap (λ i. take i xs) n ∙ (ap (take (length front)) e ∙ take-append_seam front (last ∷ []))

-- ===== the levels of the code

pub nows-at : (ls : List CodeLevel) (i : ℕ) (d : CodeLevel) → i < length ls → get_or (nows ls) i 0 ≡ (get_or ls i d).now
nows-at [] i d h = absurd (omega (arith, h))
nows-at (l ∷ ls) zero d h = refl
nows-at (l ∷ ls) (suc i) d h = nows-at ls i d (omega (arith, h))

pub nows-append : (ls ks : List CodeLevel) → nows (ls ++ ks) ≡ nows ls ++ nows ks
nows-append [] ks = refl
nows-append (l ∷ ls) ks = ap (λ u. l.now ∷ u) (nows-append ls ks)

pub length-nows : (ls : List CodeLevel) → length (nows ls) ≡ length ls
length-nows [] = refl
length-nows (l ∷ ls) = ap suc (length-nows ls)

-- one place more is the same
pub take_more : (xs ys : List ℕ) (i : ℕ) → i < length xs → i < length ys → get_or xs i 0 ≡ get_or ys i 0 → take i xs ≡ take i ys → take (suc i) xs ≡ take (suc i) ys
take_more [] ys i h k e f = absurd (omega (arith, h))
take_more (x ∷ xs) [] i h k e f = absurd (omega (arith, k))
take_more (x ∷ xs) (y ∷ ys) zero h k e f = ap (λ u. u ∷ []) e
take_more (x ∷ xs) (y ∷ ys) (suc i) h k e f =
    let a : x ≡ y = cc f in
    let b : take i xs ≡ take i ys = cc f in
    ap (λ u. u ∷ take (suc i) xs) a ∙ ap (λ u. y ∷ u) (take_more xs ys i (omega (arith, h)) (omega (arith, k)) e b)

-- where the paths part, the rest of the levels goes on
pub take-nows-drop : (ls : List CodeLevel) (i : ℕ) → take i (nows ls) ++ nows (drop i ls) ≡ nows ls
take-nows-drop [] zero = refl
take-nows-drop [] (suc i) = refl
take-nows-drop (l ∷ ls) zero = refl
take-nows-drop (l ∷ ls) (suc i) = ap (λ u. l.now ∷ u) (take-nows-drop ls i)

pub map-levels-append : (ls ks : List CodeLevel) → map level_by (ls ++ ks) ≡ map level_by ls ++ map level_by ks
map-levels-append ls ks = map-append level_by ls ks

-- the last level of a work of the code
pub place_of_last : (w : Option (List CodeLevel)) (d : CodeLevel) → 1 ≤ length (levels_of w) → IsPlaceOf (work_by w) (get_or (levels_of w) (length (levels_of w) - 1) d).now
place_of_last None d h ls l e = absurd (omega (arith, h))
place_of_last (Some xs) d h ls l e =
    let r = ends_with xs h in
    let f : map level_by xs ≡ ls ++ l ∷ [] = cc e in
    let g : level_by r.last ≡ l = same-last (map level_by r.front) ls (level_by r.last) l (sym (ap (map level_by) r.is ∙ map-levels-append r.front (r.last ∷ [])) ∙ f) in
    ap (λ x. x.now) (last_of xs r.front r.last d r.is) ∙ ap (λ (x : Level). x.now) g

-- what is left there is left
pub more_at_last : (w : Option (List CodeLevel)) (d : CodeLevel) (n : ℕ) → 1 ≤ length (levels_of w) → (get_or (levels_of w) (length (levels_of w) - 1) d).now + n < (get_or (levels_of w) (length (levels_of w) - 1) d).end → HasMore w n
more_at_last None d n h lt = absurd (omega (arith, h))
more_at_last (Some xs) d n h lt =
    let r = ends_with xs h in
    (r.front, r.last, ap (λ x. Some x) r.is, subst (λ (x : CodeLevel). x.now + n < x.end) (last_of xs r.front r.last d r.is) lt)

-- at one of the levels
pub nows-split : (ls : List CodeLevel) (i : ℕ) (d : CodeLevel) → i < length ls → nows ls ≡ nows (take i ls) ++ (get_or ls i d).now ∷ nows (drop (suc i) ls)
nows-split [] i d h = absurd (omega (arith, h))
nows-split (l ∷ ls) zero d h = refl
nows-split (l ∷ ls) (suc i) d h = ap (λ u. l.now ∷ u) (nows-split ls i d (omega (arith, h)))
