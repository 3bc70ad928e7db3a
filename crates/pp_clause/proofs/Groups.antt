-- The clauses of each predicate, while clauses are added.
use Rattle.std.proofs.Common.{◌≡◌, ◌≢◌, ◌⊎◌, ℕ, zero, suc, ◌+◌, ◌<◌, ◌≤◌, Bool, true, false, cond, List, [], ◌∷◌, ◌++◌, length, set, All, Some, refl, ap, sym, ◌∙◌, subst, inl, inr, arith, true≢false, length-append, append-nil}
use Rattle.std.specs.Prelude.{◌||◌, slice_get}
use Rattle.std.specs.List.{flat_map}
use Rattle.std.proofs.lemmas.Bool.{cases_eq, cases_order}
use Rattle.std.proofs.lemmas.List.Concat.{flat_map-append}
use Rattle.std.proofs.lemmas.List.Elements.{All-head, All-tail}
use Rattle.std.proofs.Math.ListN.{length-map}
use Rattle.std.proofs.lemmas.List.{length-set}
use Rattle.pp_algebra.specs.Canon.{has, place, firsts}
use Rattle.pp_algebra.specs.Covers.{IsIn}
use Rattle.pp_algebra.proofs.CanonLemmas.{has-all, place-front}
use Rattle.pp_row.proofs.Keys.{place_past}
use Rattle.pp_row.proofs.Numbering.{firsts-append}
use Rattle.pp_row.specs.Columns.{trees_of}
use Rattle.pp_sld.specs.Goals as goals
use Rattle.pp_sld.specs.Goals.{same_predicate}
use Rattle.pp_term.specs.declared.pred.Pred.{Pred}
use Rattle.pp_term.specs.declared.clause.Clause.{Clause}
use Rattle.pp_term.specs.Meanings.{predicate_of, program, clause_of}
use Rattle.pp_clause.specs.declared.first.First.{First}
use Rattle.pp_clause.specs.Firsts.{first_of}
use Rattle.pp_clause.specs.Predicates.{same_pred, mentioned, predicates, Names}
use Rattle.pp_clause.specs.Table.{IsGrown, IsNumber, numbers_from, tops, group_of, AreGroups, AddsEmpty}
use Rattle.pp_clause.proofs.Numbers.{same_pred-itself, same_pred-is, same_pred-IsSame}

abbrev Group : Type 0
Group = List ℕ × List First

abbrev if_so : {A : Type 0} → Bool → A → List A
if_so b x = cond b (x ∷ []) []

cond-push : {A : Type 0} (b : Bool) (x : A) (xs ys : List A) → cond b (x ∷ (xs ++ ys)) (xs ++ ys) ≡ cond b (x ∷ xs) xs ++ ys
cond-push true x xs ys = refl
cond-push false x xs ys = refl

pub predicates-push : (cs : List Clause) (c : Clause) → predicates (cs ++ c ∷ []) ≡ firsts same_pred (predicates cs) (mentioned c)
predicates-push cs c =
    ap (firsts same_pred []) (flat_map-append mentioned cs (c ∷ []) ∙ ap (λ x. flat_map mentioned cs ++ x) (append-nil (mentioned c)))
    ∙ firsts-append same_pred [] (flat_map mentioned cs) (mentioned c)

module _ (p : Pred) where
  numbers-push : (n : ℕ) (cs : List Clause) (c : Clause) → numbers_from p n (cs ++ c ∷ []) ≡ numbers_from p n cs ++ if_so (same_pred c.pred p) (n + length cs)
  numbers-push n [] c = let e : n ≡ n + 0 = omega arith in ap (λ k. cond (same_pred c.pred p) (k ∷ []) []) e
  numbers-push n (x ∷ cs) c =
      let e : suc n + length cs ≡ n + suc (length cs) = omega arith in
      ap (λ ns. cond (same_pred x.pred p) (n ∷ ns) ns) (numbers-push (suc n) cs c ∙ ap (λ k. numbers_from p (suc n) cs ++ if_so (same_pred c.pred p) k) e)
      ∙ cond-push (same_pred x.pred p) n (numbers_from p (suc n) cs) (if_so (same_pred c.pred p) (n + suc (length cs)))

  program-push : (cs : List Clause) (c : Clause) → program (cs ++ c ∷ []) (predicate_of p) ≡ program cs (predicate_of p) ++ if_so (same_pred c.pred p) (clause_of c).1
  program-push [] c = refl
  program-push (x ∷ cs) c =
      ap (λ ms. cond (same_pred x.pred p) ((clause_of x).1 ∷ ms) ms) (program-push cs c)
      ∙ cond-push (same_pred x.pred p) (clause_of x).1 (program cs (predicate_of p)) (if_so (same_pred c.pred p) (clause_of c).1)

  tops-append : (ms ns : List goals.Clause) → tops (ms ++ ns) ≡ tops ms ++ tops ns
  tops-append [] ns = refl
  tops-append (m ∷ ms) ns = ap (λ fs. first_of m.head ∷ fs) (tops-append ms ns)

  group_with : (cs : List Clause) (c : Clause) (b : Bool) → same_pred c.pred p ≡ b → group_of (cs ++ c ∷ []) p ≡ (numbers_from p 0 cs ++ if_so b (length cs), tops (program cs (predicate_of p)) ++ tops (if_so b (clause_of c).1))
  group_with cs c b e =
      let z : 0 + length cs ≡ length cs = omega arith in
      let one : numbers_from p 0 (cs ++ c ∷ []) ≡ numbers_from p 0 cs ++ if_so b (length cs) = numbers-push 0 cs c ∙ ap (λ k. numbers_from p 0 cs ++ if_so (same_pred c.pred p) k) z ∙ ap (λ d. numbers_from p 0 cs ++ if_so d (length cs)) e in
      let two : tops (program (cs ++ c ∷ []) (predicate_of p)) ≡ tops (program cs (predicate_of p)) ++ tops (if_so b (clause_of c).1) =
      ap (λ ms. tops ms) (program-push cs c) ∙ tops-append (program cs (predicate_of p)) (if_so (same_pred c.pred p) (clause_of c).1) ∙ ap (λ d. tops (program cs (predicate_of p)) ++ tops (if_so d (clause_of c).1)) e in
      λ j. (one j, two j)

  -- a clause of another predicate
  pub group_other : (cs : List Clause) (c : Clause) → same_pred c.pred p ≡ false → group_of (cs ++ c ∷ []) p ≡ group_of cs p
  group_other cs c e = group_with cs c false e ∙ (λ j. (append-nil (numbers_from p 0 cs) j, append-nil (tops (program cs (predicate_of p))) j))

  in_later : (cs : List Clause) (w : Pred) (xs : List Pred) → IsIn w (flat_map mentioned cs) → IsIn w (xs ++ flat_map mentioned cs)
  in_later cs w [] i = i
  in_later cs w (x ∷ xs) i = inr (in_later cs w xs i)

  absent_more : (qs : List Pred) (n : ℕ) (c : Clause) (cs : List Clause) → ((v : Pred) → IsIn v (flat_map mentioned (c ∷ cs)) → has same_pred qs v ≡ true) → has same_pred qs p ≡ false
      → (numbers_from p (suc n) cs ≡ []) × (program cs (predicate_of p) ≡ []) → (b : Bool) → same_pred c.pred p ≡ b
      → (cond b (n ∷ numbers_from p (suc n) cs) (numbers_from p (suc n) cs) ≡ []) × (cond b ((clause_of c).1 ∷ program cs (predicate_of p)) (program cs (predicate_of p)) ≡ [])
  absent_more qs n c cs h a r true e = absurd (true≢false (sym (h c.pred (inl refl)) ∙ ap (has same_pred qs) (same_pred-is c.pred p e) ∙ a))
  absent_more qs n c cs h a r false e = r

  absent_by : (qs : List Pred) (n : ℕ) (cs : List Clause) → ((v : Pred) → IsIn v (flat_map mentioned cs) → has same_pred qs v ≡ true) → has same_pred qs p ≡ false → (numbers_from p n cs ≡ []) × (program cs (predicate_of p) ≡ [])
  absent_by qs n [] h a = (refl, refl)
  absent_by qs n (c ∷ cs) h a = absent_more qs n c cs h a (absent_by qs (suc n) cs (λ v i. h v (in_later cs v (mentioned c) i)) a) (same_pred c.pred p) refl

  -- a predicate that isn't mentioned has no clauses
  pub absent : (cs : List Clause) → has same_pred (predicates cs) p ≡ false → group_of cs p ≡ ([], [])
  absent cs a =
      let r = absent_by (predicates cs) 0 cs (λ v i. has-all same_pred same_pred-IsSame [] (flat_map mentioned cs) v i) a in
      λ j. (r.0 j, tops (r.1 j))

  pub absent_program : (cs : List Clause) → has same_pred (predicates cs) p ≡ false → program cs (predicate_of p) ≡ []
  absent_program cs a = (absent_by (predicates cs) 0 cs (λ v i. has-all same_pred same_pred-IsSame [] (flat_map mentioned cs) v i) a).1

  pub place-within : (vs : List Pred) → has same_pred vs p ≡ true → place same_pred vs p < length vs
  place-within [] h = absurd (cc)
  place-within (x ∷ vs) h = elim (same_pred x p) as (λ b. (b || has same_pred vs p) ≡ true → cond b 0 (suc (place same_pred vs p)) < suc (length vs)) [ true ↦ λ h. omega arith | false ↦ λ h. let r = place-within vs h in omega arith ] h

  place-behind : (vs ws : List Pred) → has same_pred vs p ≡ false → length vs ≤ place same_pred (vs ++ ws) p
  place-behind [] ws h = omega arith
  place-behind (x ∷ vs) ws h = elim (same_pred x p) as (λ b. (b || has same_pred vs p) ≡ false → suc (length vs) ≤ cond b 0 (suc (place same_pred (vs ++ ws) p))) [ true ↦ λ h. absurd (cc) | false ↦ λ h. let r = place-behind vs ws h in omega arith ] h

  -- the first ones know the place, up to their count
  pub place-min : (vs ws : List Pred) (k : ℕ) → place same_pred (vs ++ ws) p ≡ k → (k < length vs → place same_pred vs p ≡ k) × (length vs ≤ k → place same_pred vs p ≡ length vs)
  place-min [] ws k e = ((λ l. absurd (omega (arith, l))), (λ l. refl))
  place-min (x ∷ vs) ws k e = elim (same_pred x p) as (λ b. cond b 0 (suc (place same_pred (vs ++ ws) p)) ≡ k → (k < suc (length vs) → cond b 0 (suc (place same_pred vs p)) ≡ k) × (suc (length vs) ≤ k → cond b 0 (suc (place same_pred vs p)) ≡ suc (length vs))) [
    | true ↦ λ e. ((λ l. e), (λ l. absurd (omega (arith, e, l))))
    | false ↦ λ e. let r = place-min vs ws (place same_pred (vs ++ ws) p) refl in ((λ l. ap suc (r.0 (omega (arith, e, l))) ∙ e), (λ l. ap suc (r.1 (omega (arith, e, l)))))
  ] e

-- the group of a predicate by its number, where more predicates may be mentioned
pub before : (cs : List Clause) (gs : List Group) (qs : List Pred) (n : ℕ) (p : Pred) (g : Group) → AreGroups cs gs → IsGrown (predicates cs) qs → IsNumber qs n p → slice_get gs n ≡ Some g → g ≡ group_of cs p
before cs gs qs n p g h k i e = go (has same_pred (predicates cs) p) refl
  where
    there : place same_pred (predicates cs ++ k.0) p ≡ n
    there = ap (λ vs. place same_pred vs p) (sym k.1) ∙ i.number

    go : (b : Bool) → has same_pred (predicates cs) p ≡ b → g ≡ group_of cs p
    go true a = h.known n p g (record { is_there = a; number = sym (place-front same_pred (predicates cs) k.0 p a) ∙ there }) e
    go false a = let l = place-behind p (predicates cs) k.0 a in h.others n g (omega (arith, l, there)) e ∙ sym (absent p cs a)

-- and by its name
pub named : (cs : List Clause) (gs : List Group) (n : ℕ) (p : Pred) (g : Group) → AreGroups cs gs → Names cs n p → slice_get gs n ≡ Some g → g ≡ group_of cs p
named cs gs n p g h k e = go (has same_pred (predicates cs) p) refl
  where
    go : (b : Bool) → has same_pred (predicates cs) p ≡ b → g ≡ group_of cs p
    go true a = h.known n p g (record { is_there = a; number = k }) e
    go false a = let l = place_past same_pred (predicates cs) p a in h.others n g (omega (arith, l, k)) e ∙ sym (absent p cs a)

-- a number without a group
pub unnamed : (cs : List Clause) (gs : List Group) (n : ℕ) (p : Pred) → AreGroups cs gs → Names cs n p → length gs ≤ n → program cs (predicate_of p) ≡ []
unnamed cs gs n p h k l = go (has same_pred (predicates cs) p) refl
  where
    go : (b : Bool) → has same_pred (predicates cs) p ≡ b → program cs (predicate_of p) ≡ []
    go true a = let w = place-within p (predicates cs) a in absurd (omega (arith, w, k, l, h.enough))
    go false a = absent_program p cs a

get-left : {A : Type 0} (xs ys : List A) (n : ℕ) → n < length xs → slice_get (xs ++ ys) n ≡ slice_get xs n
get-left [] ys n l = absurd (omega (arith, l))
get-left (x ∷ xs) ys zero l = refl
get-left (x ∷ xs) ys (suc n) l = get-left xs ys n (omega (arith, l))

pub get_all : {A : Type 0} (P : A → Type 0) (xs : List A) (n : ℕ) (x : A) → All P xs → slice_get xs n ≡ Some x → P x
get_all P [] n x h e = absurd (cc)
get_all P (y ∷ xs) zero x h e = let s : y ≡ x = cc in subst P s (All-head P y xs h)
get_all P (y ∷ xs) (suc n) x h e = get_all P xs n x (All-tail P y xs h) e

get-right : {A : Type 0} (P : A → Type 0) (xs ys : List A) (n : ℕ) (x : A) → All P ys → length xs ≤ n → slice_get (xs ++ ys) n ≡ Some x → P x
get-right P [] ys n x h l e = get_all P ys n x h e
get-right P (y ∷ xs) ys zero x h l e = absurd (omega (arith, l))
get-right P (y ∷ xs) ys (suc n) x h l e = get-right P xs ys n x h (omega (arith, l)) e

pub some_is : {A : Type 0} (x y : A) → Some x ≡ Some y → x ≡ y
some_is x y e = cc

pub get_within : {A : Type 0} (xs : List A) (n : ℕ) (x : A) → slice_get xs n ≡ Some x → n < length xs
get_within [] n x e = absurd (cc)
get_within (y ∷ xs) zero x e = omega arith
get_within (y ∷ xs) (suc n) x e = let r = get_within xs n x e in omega arith

pub cases_within : (n m : ℕ) → (n < m) ⊎ (m ≤ n)
cases_within n m = elim (cases_order n m) [ inl e ↦ inr (omega (arith, e)) | inr o ↦ elim o [ inl l ↦ inl l | inr g ↦ inr (omega (arith, g)) ] ]

-- groups without clauses are added
pub groups_grow : (cs : List Clause) (gs hs : List Group) → AreGroups cs gs → AddsEmpty gs hs → AreGroups cs hs
groups_grow cs gs hs h a = record {
  enough = (let l : length hs ≡ length gs + length a.0 = ap length a.1 ∙ length-append gs a.0 in omega (arith, l, h.enough));
  known = λ n p g i e.
      let w = place-within p (predicates cs) i.is_there in
      h.known n p g i (sym (get-left gs a.0 n (omega (arith, w, i.number, h.enough))) ∙ ap (λ xs. slice_get xs n) (sym a.1) ∙ e);
  others = λ n g l e. elim (cases_within n (length gs)) [
    | inl s ↦ h.others n g l (sym (get-left gs a.0 n s) ∙ ap (λ xs. slice_get xs n) (sym a.1) ∙ e)
    | inr o ↦ get-right (λ g. g ≡ ([], [])) gs a.0 n g a.2 o (ap (λ xs. slice_get xs n) (sym a.1) ∙ e)
  ];
}

get-same : {A : Type 0} (xs : List A) (n : ℕ) (x : A) → n < length xs → slice_get (set xs n x) n ≡ Some x
get-same [] n x l = absurd (omega (arith, l))
get-same (y ∷ xs) zero x l = refl
get-same (y ∷ xs) (suc n) x l = get-same xs n x (omega (arith, l))

get-other : {A : Type 0} (xs : List A) (n m : ℕ) (x : A) → m ≢ n → slice_get (set xs n x) m ≡ slice_get xs m
get-other [] n m x h = refl
get-other (y ∷ xs) zero zero x h = absurd (h refl)
get-other (y ∷ xs) zero (suc m) x h = refl
get-other (y ∷ xs) (suc n) zero x h = refl
get-other (y ∷ xs) (suc n) (suc m) x h = get-other xs n m x (λ e. h (ap suc e))

pub length-same : (cs : List Clause) (p : Pred) (g : Group) → g ≡ group_of cs p → length g.1 ≡ length (program cs (predicate_of p))
length-same cs p g e = ap (λ h. length h.1) e ∙ length-map (program cs (predicate_of p)) (λ m. first_of m.head)

-- the group with a clause more
abbrev pub with_clause : List Clause → Clause → Group → Group
with_clause cs c g = (g.0 ++ length cs ∷ [], g.1 ++ first_of (trees_of c.head) ∷ [])

grown_length : {A : Type 0} (xs ys : List A) → IsGrown xs ys → length xs ≤ length ys
grown_length xs ys h = let l : length ys ≡ length xs + length h.0 = ap length h.1 ∙ length-append xs h.0 in omega (arith, l)

same_place_more : (x : Pred) (vs : List Pred) (p q : Pred) → (has same_pred vs p ≡ true → has same_pred vs q ≡ true → place same_pred vs p ≡ place same_pred vs q → same_pred p q ≡ true)
    → (d e : Bool) → same_pred x p ≡ d → same_pred x q ≡ e → (d || has same_pred vs p) ≡ true → (e || has same_pred vs q) ≡ true
    → cond d 0 (suc (place same_pred vs p)) ≡ cond e 0 (suc (place same_pred vs q)) → same_pred p q ≡ true
same_place_more x vs p q r true true d e a b t = ap (λ u. same_pred u q) (sym (same_pred-is x p d)) ∙ e
same_place_more x vs p q r true false d e a b t = absurd (omega (arith, t))
same_place_more x vs p q r false true d e a b t = absurd (omega (arith, t))
same_place_more x vs p q r false false d e a b t = r a b (omega (arith, t))

same_place : (vs : List Pred) (p q : Pred) → has same_pred vs p ≡ true → has same_pred vs q ≡ true → place same_pred vs p ≡ place same_pred vs q → same_pred p q ≡ true
same_place [] p q a b t = absurd (cc)
same_place (x ∷ vs) p q a b t = same_place_more x vs p q (same_place vs p q) (same_pred x p) (same_pred x q) refl refl a b t

not_same : (p q : Pred) → (same_pred p q ≡ true → ⊥) → same_pred p q ≡ false
not_same p q f = elim (same_pred p q) as (λ b. (b ≡ true → ⊥) → b ≡ false) [ true ↦ λ f. absurd (f refl) | false ↦ λ f. refl ] f

-- a clause is added to its predicate's group
module _ (cs : List Clause) (c : Clause) (gs : List Group) (n : ℕ) (g : Group) (h : AreGroups cs gs) (k : IsGrown (predicates cs) (predicates (cs ++ c ∷ []))) (i : IsNumber (predicates (cs ++ c ∷ [])) n c.pred) (w : length (predicates (cs ++ c ∷ [])) ≤ length gs) (e : slice_get gs n ≡ Some g) where
  is_before : g ≡ group_of cs c.pred
  is_before = before cs gs (predicates (cs ++ c ∷ [])) n c.pred g h k i e

  is_with : with_clause cs c g ≡ group_of (cs ++ c ∷ []) c.pred
  is_with = ap (with_clause cs c) is_before ∙ sym (group_with c.pred cs c true (same_pred-itself c.pred))

  here : n < length gs
  here = get_within gs n g e

  pub groups_push : AreGroups (cs ++ c ∷ []) (set gs n (with_clause cs c g))
  groups_push = record {
    enough = omega (arith, w, length-set gs n (with_clause cs c g));
    known = λ m p f j s. elim (cases_eq m n) [
      | inl a ↦
          let t : same_pred c.pred p ≡ true = same_place (predicates (cs ++ c ∷ [])) c.pred p i.is_there j.is_there (i.number ∙ sym a ∙ sym j.number) in
          some_is f (with_clause cs c g) (sym s ∙ ap (slice_get (set gs n (with_clause cs c g))) a ∙ get-same gs n (with_clause cs c g) here) ∙ is_with ∙ ap (group_of (cs ++ c ∷ [])) (same_pred-is c.pred p t)
      | inr a ↦
          before cs gs (predicates (cs ++ c ∷ [])) m p f h k j (sym (get-other gs n m (with_clause cs c g) a) ∙ s)
          ∙ sym (group_other p cs c (not_same c.pred p (λ t. a (sym j.number ∙ ap (place same_pred (predicates (cs ++ c ∷ []))) (sym (same_pred-is c.pred p t)) ∙ i.number))))
    ];
    others = λ m f l s.
        let r = place-within c.pred (predicates (cs ++ c ∷ [])) i.is_there in
        let a : m ≢ n = λ t. absurd (omega (arith, r, i.number, l, t)) in
        h.others m f (omega (arith, l, grown_length (predicates cs) (predicates (cs ++ c ∷ [])) k)) (sym (get-other gs n m (with_clause cs c g) a) ∙ s);
  }

-- a predicate with clauses has a group
pub group_there : (cs : List Clause) (gs : List Group) (n k : ℕ) (p : Pred) → AreGroups cs gs → Names cs n p → k < length (program cs (predicate_of p)) → n < length gs
group_there cs gs n k p h i l = elim (cases_within n (length gs)) [
  | inl m ↦ m
  | inr m ↦ let e = ap length (unnamed cs gs n p h i m) in absurd (omega (arith, e, l))
]
