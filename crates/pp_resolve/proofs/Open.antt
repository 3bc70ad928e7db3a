-- Goals that are suspended, and the goals before and behind a place.
use Rattle.std.proofs.Common.{◌≡◌, ℕ, zero, suc, ◌+◌, ◌<◌, ◌≤◌, Bool, true, false, cond, List, [], ◌∷◌, ◌++◌, length, take, drop, get_or, Option, Some, None, refl, ap, sym, ◌∙◌, subst, arith, true≢false, append_assoc, append-nil, length-append}
use Rattle.std.specs.Prelude.{nat_eq}
use Rattle.std.specs.List.{slice_get}
use Rattle.std.proofs.lemmas.List.{length-map}
use Rattle.std.proofs.lemmas.List.Elements.{All-nil, All-append}
use Rattle.pp_algebra.proofs.Bools.{nat_same, nat_is}
use Rattle.pp_algebra.specs.Rows.{Row}
use Rattle.pp_sld.specs.Goals.{Goal, put_goal}
use Rattle.pp_term.specs.declared.clause.Clause.{Clause}
use Rattle.pp_resolve.specs.declared.history.Rest.{Rest}
use Rattle.pp_resolve.specs.declared.history.Front.{Front}
use Rattle.pp_resolve.specs.declared.suspended.Suspension.{Suspension}
use Rattle.pp_resolve.specs.Standing.{counted}
use Rattle.pp_resolve.specs.Suspensions.{is_among}
use Rattle.pp_resolve.specs.Kept.{Kept}
use Rattle.pp_resolve.specs.Links.{body_of, first_of, open_from, goals_in, goals_of, before, after, IsRest}
use Rattle.pp_resolve.specs.Acts.{does}
use Rattle.pp_resolve.specs.Engines.{DoWait, AreSuspended, WaitUpTo, IsPlace, IsRestAt, bound}
use Rattle.pp_resolve.proofs.Linked.{first_is, goals_open, other}

-- ===== places that are done

pub among_last : (n d : ℕ) (ds : List ℕ) → is_among n (ds ++ d ∷ []) ≡ cond (is_among n ds) true (nat_eq n d)
among_last n d [] = go (nat_eq n d)
  where
    go : (b : Bool) → cond b true false ≡ b
    go true = refl
    go false = refl
among_last n d (e ∷ ds) = go (nat_eq n e) (among_last n d ds)
  where
    go : (b : Bool) → is_among n (ds ++ d ∷ []) ≡ cond (is_among n ds) true (nat_eq n d) → cond b true (is_among n (ds ++ d ∷ [])) ≡ cond (cond b true (is_among n ds)) true (nat_eq n d)
    go true h = refl
    go false h = h

-- a place that was done stays so
pub still_done : (n d : ℕ) (ds : List ℕ) → is_among n (ds ++ d ∷ []) ≡ false → is_among n ds ≡ false
still_done n d ds h = go (is_among n ds) refl
  where
    go : (b : Bool) → is_among n ds ≡ b → b ≡ false
    go true e = absurd (true≢false (sym (among_last n d ds ∙ ap (λ b. cond b true (nat_eq n d)) e) ∙ h))
    go false e = refl

-- another place is done where it was
pub other_done : (n d : ℕ) (ds : List ℕ) → (n ≡ d → ⊥) → is_among n (ds ++ d ∷ []) ≡ is_among n ds
other_done n d ds h = among_last n d ds ∙ ap (λ b. cond (is_among n ds) true b) (other n d h) ∙ go (is_among n ds)
  where
    go : (b : Bool) → cond b true false ≡ b
    go true = refl
    go false = refl

pub done_now : (d : ℕ) (ds : List ℕ) → is_among d (ds ++ d ∷ []) ≡ true
done_now d ds = among_last d d ds ∙ ap (λ b. cond (is_among d ds) true b) (nat_same d) ∙ go (is_among d ds)
  where
    go : (b : Bool) → cond b true true ≡ true
    go true = refl
    go false = refl

-- what is done after one more is the new one or was done
pub done_either : (n d : ℕ) (ds : List ℕ) → is_among n (ds ++ d ∷ []) ≡ true → (P : Type 0) → (is_among n ds ≡ true → P) → (n ≡ d → P) → P
done_either n d ds h P old new = go (is_among n ds) refl
  where
    go : (b : Bool) → is_among n ds ≡ b → P
    go true e = old e
    go false e = new (nat_is n d (sym (ap (λ b. cond b true (nat_eq n d)) e) ∙ sym (among_last n d ds) ∙ h))

pub get_slice : {A : Type 0} (xs : List A) (i : ℕ) (x : A) → i < length xs → x ≡ get_or xs i x → slice_get xs i ≡ Some x
get_slice [] i x w e = absurd (omega (arith, w))
get_slice (y ∷ ys) zero x w e = ap Some (sym e)
get_slice (y ∷ ys) (suc i) x w e = get_slice ys i x (omega (arith, w)) e

-- an element of a list with one more
pub slice_last : {A : Type 0} (xs : List A) (y : A) (i : ℕ) (x : A) → slice_get (xs ++ y ∷ []) i ≡ Some x → (P : Type 0) → (slice_get xs i ≡ Some x → P) → (i ≡ length xs → x ≡ y → P) → P
slice_last [] y zero x e P old new = new refl (sym (cc e))
slice_last [] y (suc i) x e P old new = absurd (cc e)
slice_last (z ∷ xs) y zero x e P old new = old e
slice_last (z ∷ xs) y (suc i) x e P old new = slice_last xs y i x e P old (λ s t. new (ap suc s) t)

-- ===== the goals that are suspended

none_more : (n : ℕ) → 0 + n ≡ n
none_more n = omega arith

module _ (cs : List Clause) (root : Goal ℕ) where
  abbrev goals : List ℕ → ℕ → List Suspension → List (Goal ℕ)
  goals = open_from cs root

  abbrev one : List ℕ → ℕ → Suspension → List (Goal ℕ)
  one ds n s = cond (is_among n ds) [] (first_of cs root s.rest)

  pub open_append : (ds : List ℕ) (n : ℕ) (ss ts : List Suspension) → goals ds n (ss ++ ts) ≡ goals ds n ss ++ goals ds (n + length ss) ts
  open_append ds n [] ts = let e : n + 0 ≡ n = omega arith in ap (λ m. goals ds m ts) (sym e)
  open_append ds n (s ∷ ss) ts =
      let e : suc n + length ss ≡ n + suc (length ss) = omega arith in
      ap (λ gs. one ds n s ++ gs) (open_append ds (suc n) ss ts ∙ ap (λ m. goals ds (suc n) ss ++ goals ds m ts) e)
      ∙ sym (append_assoc (one ds n s) (goals ds (suc n) ss) (goals ds (n + suc (length ss)) ts))

  -- one that isn't done, between those before and behind it
  pub open_split : (ds : List ℕ) (n : ℕ) (ss : List Suspension) (i : ℕ) (s : Suspension) → slice_get ss i ≡ Some s → is_among (n + i) ds ≡ false
      → goals ds n ss ≡ goals ds n (take i ss) ++ (first_of cs root s.rest ++ goals ds (suc (n + i)) (drop (suc i) ss))
  open_split ds n [] i s e h = absurd (cc e)
  open_split ds n (t ∷ ss) zero s e h =
      let z : n + 0 ≡ n = omega arith in
      let same : t ≡ s = cc e in
      ap (λ b. cond b [] (first_of cs root t.rest) ++ goals ds (suc n) ss) (ap (λ m. is_among m ds) (sym z) ∙ h)
      ∙ ap (λ x. first_of cs root x.rest ++ goals ds (suc n) ss) same
      ∙ ap (λ m. first_of cs root s.rest ++ goals ds (suc m) ss) (sym z)
  open_split ds n (t ∷ ss) (suc i) s e h =
      let k : n + suc i ≡ suc n + i = omega arith in
      ap (λ gs. one ds n t ++ gs) (open_split ds (suc n) ss i s e (ap (λ m. is_among m ds) (sym k) ∙ h))
      ∙ ap (λ m. one ds n t ++ (goals ds (suc n) (take i ss) ++ (first_of cs root s.rest ++ goals ds (suc m) (drop (suc i) ss)))) (sym k)
      ∙ sym (append_assoc (one ds n t) (goals ds (suc n) (take i ss)) (first_of cs root s.rest ++ goals ds (suc (n + suc i)) (drop (suc i) ss)))

  pub open_at : (ds : List ℕ) (ss : List Suspension) (i : ℕ) (s : Suspension) → slice_get ss i ≡ Some s → is_among i ds ≡ false → goals ds 0 ss ≡ goals ds 0 (take i ss) ++ (first_of cs root s.rest ++ goals ds (suc i) (drop (suc i) ss))
  open_at ds ss i s e h =
      open_split ds 0 ss i s e (ap (λ n. is_among n ds) (none_more i) ∙ h)
      ∙ ap (λ n. goals ds 0 (take i ss) ++ (first_of cs root s.rest ++ goals ds (suc n) (drop (suc i) ss))) (none_more i)

  -- a place outside that is done changes nothing
  pub open_before : (ds : List ℕ) (d n : ℕ) (ss : List Suspension) → n + length ss ≤ d → goals (ds ++ d ∷ []) n ss ≡ goals ds n ss
  open_before ds d n [] h = refl
  open_before ds d n (s ∷ ss) h =
      ap (λ b. cond b [] (first_of cs root s.rest) ++ goals (ds ++ d ∷ []) (suc n) ss) (other_done n d ds (λ e. absurd (omega (arith, h, e))))
      ∙ ap (λ gs. one ds n s ++ gs) (open_before ds d (suc n) ss (omega (arith, h)))

  pub open_behind : (ds : List ℕ) (d n : ℕ) (ss : List Suspension) → d < n → goals (ds ++ d ∷ []) n ss ≡ goals ds n ss
  open_behind ds d n [] h = refl
  open_behind ds d n (s ∷ ss) h =
      ap (λ b. cond b [] (first_of cs root s.rest) ++ goals (ds ++ d ∷ []) (suc n) ss) (other_done n d ds (λ e. absurd (omega (arith, h, e))))
      ∙ ap (λ gs. one ds n s ++ gs) (open_behind ds d (suc n) ss (omega (arith, h)))

  -- where one is done the others are left
  pub open_done : (ds : List ℕ) (n : ℕ) (ss : List Suspension) (i : ℕ) → i < length ss → goals (ds ++ (n + i) ∷ []) n ss ≡ goals ds n (take i ss) ++ goals ds (suc (n + i)) (drop (suc i) ss)
  open_done ds n [] i h = absurd (omega (arith, h))
  open_done ds n (t ∷ ss) zero h =
      let z : n + 0 ≡ n = omega arith in
      let done : is_among n (ds ++ (n + 0) ∷ []) ≡ true = ap (λ m. is_among n (ds ++ m ∷ [])) z ∙ done_now n ds in
      ap (λ b. cond b [] (first_of cs root t.rest) ++ goals (ds ++ (n + 0) ∷ []) (suc n) ss) done
      ∙ open_behind ds (n + 0) (suc n) ss (omega arith)
      ∙ ap (λ m. goals ds (suc m) ss) (sym z)
  open_done ds n (t ∷ ss) (suc i) h =
      let k : n + suc i ≡ suc n + i = omega arith in
      ap (λ b. cond b [] (first_of cs root t.rest) ++ goals (ds ++ (n + suc i) ∷ []) (suc n) ss) (other_done n (n + suc i) ds (λ e. absurd (omega (arith, e))))
      ∙ ap (λ m. one ds n t ++ goals (ds ++ m ∷ []) (suc n) ss) k
      ∙ ap (λ gs. one ds n t ++ gs) (open_done ds (suc n) ss i (omega (arith, h)))
      ∙ ap (λ m. one ds n t ++ (goals ds (suc n) (take i ss) ++ goals ds (suc m) (drop (suc i) ss))) (sym k)
      ∙ sym (append_assoc (one ds n t) (goals ds (suc n) (take i ss)) (goals ds (suc (n + suc i)) (drop (suc i) ss)))

  pub open_done_at : (ds : List ℕ) (ss : List Suspension) (i : ℕ) → i < length ss → goals (ds ++ i ∷ []) 0 ss ≡ goals ds 0 (take i ss) ++ goals ds (suc i) (drop (suc i) ss)
  open_done_at ds ss i w =
      ap (λ n. goals (ds ++ n ∷ []) 0 ss) (sym (none_more i))
      ∙ open_done ds 0 ss i w
      ∙ ap (λ n. goals ds 0 (take i ss) ++ goals ds (suc n) (drop (suc i) ss)) (none_more i)

  -- one more that isn't done
  pub open_more : (ds : List ℕ) (ss : List Suspension) (s : Suspension) → is_among (length ss) ds ≡ false → goals ds 0 (ss ++ s ∷ []) ≡ goals ds 0 ss ++ first_of cs root s.rest
  open_more ds ss s h =
      open_append ds 0 ss (s ∷ [])
      ∙ ap (λ n. goals ds 0 ss ++ (cond (is_among n ds) [] (first_of cs root s.rest) ++ [])) (none_more (length ss))
      ∙ ap (λ b. goals ds 0 ss ++ (cond b [] (first_of cs root s.rest) ++ [])) h
      ∙ ap (λ gs. goals ds 0 ss ++ gs) (append-nil (first_of cs root s.rest))

  first_short : (xs : List (Goal ℕ)) → length (take 1 xs) ≤ 1
  first_short [] = omega arith
  first_short (x ∷ xs) = omega arith

  -- no more goals than suspensions
  pub open_short : (ds : List ℕ) (n : ℕ) (ss : List Suspension) → length (goals ds n ss) ≤ length ss
  open_short ds n [] = omega arith
  open_short ds n (s ∷ ss) =
      let later = open_short ds (suc n) ss in
      let all = length-append (one ds n s) (goals ds (suc n) ss) in
      let its = here (is_among n ds) in
      omega (arith, later, all, its)
    where
      here : (b : Bool) → length (cond b [] (first_of cs root s.rest)) ≤ 1
      here true = omega arith
      here false =
          let body = take 1 (drop s.rest.from (body_of cs root s.rest.body)) in
          let m = length-map body (put_goal (counted s.rest.first)) in
          let l = first_short (drop s.rest.from (body_of cs root s.rest.body)) in
          omega (arith, m, l)

  -- those before a place wait
  wait_from : (r : Row) (ds : List ℕ) (n : ℕ) (ss : List Suspension) (m : ℕ) → ((j : ℕ) (s : Suspension) → slice_get ss j ≡ Some s → j < m → is_among (n + j) ds ≡ false → DoWait r (first_of cs root s.rest)) → DoWait r (goals ds n (take m ss))
  wait_from r ds n [] zero h = All-nil (λ g. does r g ≡ None)
  wait_from r ds n [] (suc m) h = All-nil (λ g. does r g ≡ None)
  wait_from r ds n (s ∷ ss) zero h = All-nil (λ g. does r g ≡ None)
  wait_from r ds n (s ∷ ss) (suc m) h =
      All-append (λ g. does r g ≡ None) (one ds n s) (goals ds (suc n) (take m ss)) (first (is_among n ds) refl)
      (wait_from r ds (suc n) ss m (λ j t e l o. h (suc j) t e (omega (arith, l)) (ap (λ k. is_among k ds) (shift j) ∙ o)))
    where
      shift : (j : ℕ) → n + suc j ≡ suc n + j
      shift j = omega arith

      zero_is : n + 0 ≡ n
      zero_is = omega arith

      first : (b : Bool) → is_among n ds ≡ b → DoWait r (cond b [] (first_of cs root s.rest))
      first true e = All-nil (λ g. does r g ≡ None)
      first false e = h 0 s refl (omega arith) (ap (λ k. is_among k ds) zero_is ∙ e)

  pub take_whole : {A : Type 0} (xs : List A) → take (length xs) xs ≡ xs
  take_whole [] = refl
  take_whole (x ∷ xs) = ap (λ ys. x ∷ ys) (take_whole xs)

  pub before_wait : (r : Row) (k : Kept) (at : Option ℕ) → WaitUpTo cs root r k.suspended k.done (bound k at) → DoWait r (before cs root k at)
  before_wait r k None w = subst (λ ss. DoWait r (goals k.done 0 ss)) (take_whole k.suspended) (wait_from r k.done 0 k.suspended (length k.suspended) (λ j s e l o. w j s e l (ap (λ n. is_among n k.done) (sym (none_more j)) ∙ o)))
  before_wait r k (Some i) w = wait_from r k.done 0 k.suspended i (λ j s e l o. w j s e l (ap (λ n. is_among n k.done) (sym (none_more j)) ∙ o))

  -- ===== a goal at a place

  -- the goals before it, it, and those behind it
  pub parts : (k : Kept) (f : Front) (at : Option ℕ) (l : Rest) (g : Goal ℕ) → IsPlace k f at → IsRestAt k f at l → slice_get (body_of cs root l.body) l.from ≡ Some g
      → goals_of cs root k f ≡ before cs root k at ++ put_goal (counted l.first) g ∷ after cs root k f at
  parts k f None l g p e b =
      let here : slice_get (body_of cs root f.rest.body) f.rest.from ≡ Some g = subst (λ x. slice_get (body_of cs root x.body) x.from ≡ Some g) e b in
      ap (λ gs. goals k.done 0 k.suspended ++ gs) (goals_open cs root f.rest g here k.links p ∙ ap (λ x. put_goal (counted x.first) g ∷ after cs root k f None) (sym e))
  parts k f (Some i) l g p e b =
      let here : slice_get (body_of cs root e.0.rest.body) e.0.rest.from ≡ Some g = subst (λ x. slice_get (body_of cs root x.body) x.from ≡ Some g) e.2 b in
      let behind = goals k.done (suc i) (drop (suc i) k.suspended) in
      let left = goals_in cs root k.links f.rest in
      let start = goals k.done 0 (take i k.suspended) in
      let raw = put_goal (counted l.first) g in
      ap (λ gs. gs ++ left) (open_at k.done k.suspended i e.0 e.1 p.1 ∙ ap (λ gs. start ++ (gs ++ behind)) (first_is cs root e.0.rest g here ∙ ap (λ x. put_goal (counted x.first) g ∷ []) (sym e.2)))
      ∙ append_assoc start (raw ∷ behind) left

  -- goals stand at the place
  pub rest_there : (r : Row) (k : Kept) (f : Front) (at : Option ℕ) (l : Rest) → AreSuspended cs root r k.suspended k.done → IsRest cs root (length k.links) f.rest → IsPlace k f at → IsRestAt k f at l → IsRest cs root (length k.links) l × (l.from < l.to)
  rest_there r k f None l s h p e = (subst (IsRest cs root (length k.links)) (sym e) h, subst (λ x. x.from < x.to) (sym e) p)
  rest_there r k f (Some i) l s h p e =
      let t = s.goals i e.0 e.1 in
      let n = t.rest.next in
      let whole : IsRest cs root (length k.links) e.0.rest = record { formed = t.rest.formed; from = t.rest.from; to = t.rest.to; next = omega (arith, n); small = t.rest.small } in
      (subst (IsRest cs root (length k.links)) (sym e.2) whole, subst (λ x. x.from < x.to) (sym e.2) t.some)
