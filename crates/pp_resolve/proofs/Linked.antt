-- Links of goals, the last one first.
use Rattle.std.proofs.Common.{◌≡◌, ℕ, zero, suc, ◌+◌, ◌-◌, ◌<◌, ◌≤◌, Bool, true, false, cond, List, [], ◌∷◌, ◌++◌, length, map, take, drop, reverse, get_or, Some, refl, ap, sym, ◌∙◌, subst, arith, append_assoc, length-append}
use Rattle.std.specs.Prelude.{nat_eq}
use Rattle.std.specs.List.{slice_get}
use Rattle.std.proofs.lemmas.List.{take-append-drop, reverse-append, length-reverse, length-take, drop_more}
use Rattle.pp_algebra.proofs.Bools.{nat_same, nat_is}
use Rattle.pp_sld.specs.Goals.{Goal, put_goal}
use Rattle.pp_term.specs.declared.clause.Clause.{Clause}
use Rattle.pp_resolve.specs.declared.history.Rest.{Rest}
use Rattle.pp_resolve.specs.Standing.{counted}
use Rattle.pp_resolve.specs.Links.{along, after_first, body_of, piece, first_of, below, goals_in, IsRest, AreLinks}

pub other : (m n : ℕ) → (m ≡ n → ⊥) → nat_eq m n ≡ false
other m n h = go (nat_eq m n) refl
  where
    go : (b : Bool) → nat_eq m n ≡ b → b ≡ false
    go true e = absurd (h (nat_is m n e))
    go false e = refl

-- ===== what links come to

module _ (f : Rest → List (Goal ℕ) → List (Goal ℕ)) where
  along_older : (l : Rest) (older : List Rest) (k : ℕ) → k ≤ length older → along f (l ∷ older) k ≡ along f older k
  along_older l older k h = ap (λ b. cond b (f l (along f older l.next)) (along f older k)) (other k (suc (length older)) (λ e. absurd (omega (arith, h, e))))

  pub along_zero : (ls : List Rest) → along f ls 0 ≡ []
  along_zero [] = refl
  along_zero (l ∷ older) = along_older l older 0 (omega arith) ∙ along_zero older

  along_more : (more older : List Rest) (k : ℕ) → k ≤ length older → along f (more ++ older) k ≡ along f older k
  along_more [] older k h = refl
  along_more (l ∷ more) older k h = along_older l (more ++ older) k (omega (arith, h, length-append more older)) ∙ along_more more older k h

  along_top : (l : Rest) (older : List Rest) (k : ℕ) → k ≡ suc (length older) → along f (l ∷ older) k ≡ f l (along f older l.next)
  along_top l older k e = ap (λ b. cond b (f l (along f older l.next)) (along f older k)) (ap (λ n. nat_eq n (suc (length older))) e ∙ nat_same (suc (length older)))

  -- links that come behind change nothing
  pub along_behind : (ls more : List Rest) (k : ℕ) → k ≤ length ls → along f (reverse (ls ++ more)) k ≡ along f (reverse ls) k
  along_behind ls more k h = ap (λ xs. along f xs k) (reverse-append ls more) ∙ along_more (reverse more) (reverse ls) k (omega (arith, h, length-reverse ls))

  pub along_still : (ls ms more : List Rest) (k : ℕ) → ms ≡ ls ++ more → k ≤ length ls → along f (reverse ms) k ≡ along f (reverse ls) k
  along_still ls ms more k e h = ap (λ xs. along f (reverse xs) k) e ∙ along_behind ls more k h

  -- the link that was added
  pub along_new : (ls ms : List Rest) (l : Rest) (k : ℕ) → ms ≡ ls ++ l ∷ [] → k ≡ length ms → along f (reverse ms) k ≡ f l (along f (reverse ls) l.next)
  along_new ls ms l k e s =
      let turned : reverse ms ≡ l ∷ reverse ls = ap reverse e ∙ reverse-append ls (l ∷ []) in
      let size : length ms ≡ length ls + 1 = ap length e ∙ length-append ls (l ∷ []) in
      ap (λ xs. along f xs k) turned ∙ along_top l (reverse ls) k (omega (arith, s, size, length-reverse ls))

-- ===== a link, by its place

module _ (cs : List Clause) (root : Goal ℕ) where
  links_older : (more older : List Rest) → AreLinks cs root (more ++ older) → AreLinks cs root older
  links_older [] older h = h
  links_older (l ∷ more) older h = links_older more older h.2

  pub links_more : (ls ms : List Rest) (l : Rest) → ms ≡ ls ++ l ∷ [] → l.from < l.to → IsRest cs root (length ls) l → AreLinks cs root (reverse ls) → AreLinks cs root (reverse ms)
  links_more ls ms l e s r h =
      let turned : reverse ms ≡ l ∷ reverse ls = ap reverse e ∙ reverse-append ls (l ∷ []) in
      subst (AreLinks cs root) (sym turned) (s, subst (λ k. IsRest cs root k l) (sym (length-reverse ls)) r, h)

  module _ (ls : List Rest) (i : ℕ) (l : Rest) (w : i < length ls) (e : l ≡ get_or ls i l) (h : AreLinks cs root (reverse ls)) where
    abbrev older : List Rest
    older = reverse (take i ls)

    abbrev more : List Rest
    more = reverse (drop (i + 1) ls)

    split : reverse ls ≡ more ++ l ∷ older
    split =
        let opened : drop i ls ≡ l ∷ drop (i + 1) ls = drop_more ls i l w ∙ ap (λ x. x ∷ drop (i + 1) ls) (sym e) in
        ap reverse (sym (take-append-drop i ls) ∙ ap (λ xs. take i ls ++ xs) opened)
        ∙ reverse-append (take i ls) (l ∷ drop (i + 1) ls)
        ∙ ap (λ xs. xs ++ older) (reverse-append (l ∷ []) (drop (i + 1) ls))
        ∙ append_assoc more (l ∷ []) older

    length-older : length older ≡ i
    length-older = length-reverse (take i ls) ∙ omega (arith, length-take i ls, w)

    here : (l.from < l.to) × IsRest cs root (length older) l × AreLinks cs root older
    here = links_older more (l ∷ older) (subst (AreLinks cs root) split h)

    link_rest : IsRest cs root i l
    link_rest = subst (λ n. IsRest cs root n l) length-older here.1

    pub link_some : l.from < l.to
    link_some = here.0

    pub link_next : l.next ≤ i
    link_next = link_rest.next

    pub link_is : IsRest cs root (length ls) l
    link_is = record { formed = link_rest.formed; from = link_rest.from; to = link_rest.to; next = omega (arith, w, link_rest.next); small = link_rest.small }

    pub link_along : (f : Rest → List (Goal ℕ) → List (Goal ℕ)) → along f (reverse ls) (i + 1) ≡ f l (along f (reverse ls) l.next)
    link_along f =
        let n = link_rest.next in
        let o = length-older in
        let one : along f (more ++ l ∷ older) (i + 1) ≡ f l (along f older l.next) = along_more f more (l ∷ older) (i + 1) (omega (arith, o)) ∙ along_top f l older (i + 1) (omega (arith, o)) in
        let two : along f (more ++ l ∷ older) l.next ≡ along f older l.next = along_more f more (l ∷ older) l.next (omega (arith, o, n)) ∙ along_older f l older l.next (omega (arith, o, n)) in
        ap (λ xs. along f xs (i + 1)) split ∙ one ∙ ap (f l) (sym two ∙ ap (λ xs. along f xs l.next) (sym split))

-- ===== the goals of a body

pub has_item : {A : Type 0} (xs : List A) (i : ℕ) → i < length xs → (x : A) × (slice_get xs i ≡ Some x)
has_item [] i l = absurd (omega (arith, l))
has_item (x ∷ xs) zero l = (x, refl)
has_item (x ∷ xs) (suc i) l = has_item xs i (omega (arith, l))

take_open : {A : Type 0} (xs : List A) (i j : ℕ) (x : A) → slice_get xs i ≡ Some x → i < j → take (j - i) (drop i xs) ≡ x ∷ take (j - (i + 1)) (drop (i + 1) xs)
take_open [] i j x e l = absurd (cc e)
take_open (y ∷ ys) zero zero x e l = absurd (omega (arith, l))
take_open (y ∷ ys) zero (suc j) x e l = let one : suc j - 0 ≡ suc j = omega arith in let two : suc j - (0 + 1) ≡ j = omega arith in rw (one, two) (ap (λ z. z ∷ take j ys) (cc e))
take_open (y ∷ ys) (suc i) zero x e l = absurd (omega (arith, l))
take_open (y ∷ ys) (suc i) (suc j) x e l = let one : suc j - suc i ≡ j - i = omega arith in let two : suc j - (suc i + 1) ≡ j - (i + 1) = omega arith in let three : suc i + 1 ≡ suc (i + 1) = omega arith in rw (one, two, three) (take_open ys i j x e (omega (arith, l)))

take_first : {A : Type 0} (xs : List A) (i : ℕ) (x : A) → slice_get xs i ≡ Some x → take 1 (drop i xs) ≡ x ∷ []
take_first [] i x e = absurd (cc e)
take_first (y ∷ ys) zero x e = ap (λ z. z ∷ []) (cc e)
take_first (y ∷ ys) (suc i) x e = take_first ys i x e

module _ (cs : List Clause) (root : Goal ℕ) where
  pub piece_done : (l : Rest) → l.from ≡ l.to → piece cs root l ≡ []
  piece_done l e =
      let z : l.to - l.from ≡ 0 = omega (arith, e) in
      ap (λ n. map (put_goal (counted l.first)) (take n (drop l.from (body_of cs root l.body)))) z

  pub goals_done : (ls : List Rest) (l : Rest) → l.from ≡ l.to → goals_in cs root ls l ≡ below cs root (reverse ls) l.next
  goals_done ls l e = ap (λ gs. gs ++ below cs root (reverse ls) l.next) (piece_done l e)

  module _ (l : Rest) (g : Goal ℕ) (e : slice_get (body_of cs root l.body) l.from ≡ Some g) where
    abbrev raw : Goal ℕ
    raw = put_goal (counted l.first) g

    pub first_is : first_of cs root l ≡ raw ∷ []
    first_is = ap (map (put_goal (counted l.first))) (take_first (body_of cs root l.body) l.from g e)

    pub piece_open : l.from < l.to → piece cs root l ≡ raw ∷ piece cs root (after_first l)
    piece_open w = ap (map (put_goal (counted l.first))) (take_open (body_of cs root l.body) l.from l.to g e w)

    pub goals_open : (ls : List Rest) → l.from < l.to → goals_in cs root ls l ≡ raw ∷ goals_in cs root ls (after_first l)
    goals_open ls w = ap (λ gs. gs ++ below cs root (reverse ls) l.next) (piece_open w)

  pub goal_there : (n : ℕ) (l : Rest) → IsRest cs root n l → l.from < l.to → (g : Goal ℕ) × (slice_get (body_of cs root l.body) l.from ≡ Some g)
  goal_there n l r w = has_item (body_of cs root l.body) l.from (omega (arith, w, r.to))

  pub stepped_rest : (n : ℕ) (l : Rest) → IsRest cs root n l → l.from < l.to → IsRest cs root n (after_first l)
  stepped_rest n l r w = record { formed = r.formed; from = omega (arith, w); to = r.to; next = r.next; small = r.small }
