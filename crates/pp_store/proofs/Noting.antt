-- Of each variable what it stands in, once more is noted.
use Rattle.std.proofs.Common.{◌≡◌, ℕ, zero, suc, ◌+◌, ◌<◌, ◌⊎◌, inl, inr, true, false, List, [], ◌∷◌, ◌++◌, length, map, get_or, set, take, refl, ap, sym, ◌∙◌, subst, arith}
use Rattle.std.specs.Prelude.{cond, nat_eq, ◌||◌}
use Rattle.std.specs.List.{list_any}
use Rattle.std.proofs.lemmas.Bool.{cases_eq}
use Rattle.std.proofs.lemmas.List.{get_or-set_same, get_or-set_other, length-set, take_more}
use Rattle.std.proofs.Math.ListN.{length-map}
use Rattle.pp_algebra.specs.Covers.{IsIn}
use Rattle.pp_algebra.specs.Canon.{has, firsts, Distinct}
use Rattle.pp_algebra.proofs.CanonLemmas.{nat_eq-IsSame}
use Rattle.pp_algebra.proofs.OneCanon.{distinct_push}
use Rattle.pp_algebra.proofs.Antisym.{IsIn-either}
use Rattle.pp_row.proofs.Keys.{taken_number}
use Rattle.pp_row.specs.Cells.{variables_in, variables_among}
use Rattle.pp_row.specs.declared.cell.Cell.{Cell}
use Rattle.pp_store.specs.Occurring.{Stands, HasMore, IsLonger, AreGathered}
use Rattle.pp_store.proofs.Renumbered.{first_in}
use Rattle.pp_store.proofs.Lists.{has_in, in_has}

pub more_none : (ns : List ℕ) (ss : List (List ℕ)) → HasMore ns ss ss
more_none ns ss = record { count = refl; stays = λ v k h. h; only = λ v k h. inl h }

pub more_then : (ns ms : List ℕ) (a b c : List (List ℕ)) → HasMore ns a b → HasMore ms b c → ((k : ℕ) → IsIn k ms → IsIn k ns) → HasMore ns a c
more_then ns ms a b c h j within = record {
  count = j.count ∙ h.count;
  stays = λ v k s. j.stays v k (h.stays v k s);
  only = λ v k s. elim (j.only v k s) [ inl t ↦ h.only v k t | inr i ↦ inr (within k i) ];
}

pub only_one : (n k : ℕ) (ns : List ℕ) → IsIn n ns → IsIn k (n ∷ []) → IsIn k ns
only_one n k ns i (inl e) = subst (λ x. IsIn x ns) e i
only_one n k ns i (inr h) = absurd h

-- one set has more
pub set_more : (n : ℕ) (ss : List (List ℕ)) (v : ℕ) (ks : List ℕ) → v < length ss → ((k : ℕ) → has nat_eq (get_or ss v []) k ≡ true → has nat_eq ks k ≡ true) → ((k : ℕ) → has nat_eq ks k ≡ true → (has nat_eq (get_or ss v []) k ≡ true) ⊎ IsIn k (n ∷ [])) → HasMore (n ∷ []) ss (set ss v ks)
set_more n ss v ks l stays only = record { count = length-set ss v ks; stays = keeps; only = has_only }
  where
    keeps : (w k : ℕ) → Stands ss w k → Stands (set ss v ks) w k
    keeps w k h = elim (cases_eq w v) [
      | inl e ↦ ap (λ xs. has nat_eq xs k) (ap (λ u. get_or (set ss v ks) u []) e ∙ get_or-set_same ss v ks [] l) ∙ stays k (subst (λ u. Stands ss u k) e h)
      | inr f ↦ ap (λ xs. has nat_eq xs k) (get_or-set_other ss v w ks [] f) ∙ h
    ]

    has_only : (w k : ℕ) → Stands (set ss v ks) w k → Stands ss w k ⊎ IsIn k (n ∷ [])
    has_only w k h = elim (cases_eq w v) [
      | inl e ↦ elim (only k (sym (ap (λ xs. has nat_eq xs k) (ap (λ u. get_or (set ss v ks) u []) e ∙ get_or-set_same ss v ks [] l)) ∙ h)) [ inl s ↦ inl (subst (λ u. Stands ss u k) (sym e) s) | inr i ↦ inr i ]
      | inr f ↦ inl (sym (ap (λ xs. has nat_eq xs k) (get_or-set_other ss v w ks [] f)) ∙ h)
    ]

has_pushed : (xs : List ℕ) (n k : ℕ) → has nat_eq (xs ++ n ∷ []) k ≡ true → (has nat_eq xs k ≡ true) ⊎ IsIn k (n ∷ [])
has_pushed xs n k h = elim (IsIn-either k xs (n ∷ []) (has_in (xs ++ n ∷ []) k h)) [ inl a ↦ inl (in_has xs k a) | inr b ↦ inr b ]

pub has_before : (xs ys : List ℕ) (k : ℕ) → has nat_eq xs k ≡ true → has nat_eq (xs ++ ys) k ≡ true
has_before [] ys k h = let g : false ≡ true = h in absurd (cc (g))
has_before (x ∷ xs) ys k h = elim (nat_eq x k) as (λ b. (b || has nat_eq xs k) ≡ true → (b || has nat_eq (xs ++ ys) k) ≡ true) [ true ↦ λ g. refl | false ↦ λ g. has_before xs ys k g ] h

has_after : (xs ys : List ℕ) (k : ℕ) → has nat_eq ys k ≡ true → has nat_eq (xs ++ ys) k ≡ true
has_after [] ys k h = h
has_after (x ∷ xs) ys k h = elim (nat_eq x k) as (λ b. (b || has nat_eq (xs ++ ys) k) ≡ true) [ true ↦ refl | false ↦ has_after xs ys k h ]

-- a set of names has what it had and what it took in
pub firsts_has : (xs ys : List ℕ) (k : ℕ) → has nat_eq xs k ≡ true → has nat_eq (firsts nat_eq xs ys) k ≡ true
firsts_has xs [] k h = h
firsts_has xs (y ∷ ys) k h = elim (has nat_eq xs y) as (λ b. has nat_eq (cond b (firsts nat_eq xs ys) (firsts nat_eq (xs ++ y ∷ []) ys)) k ≡ true) [ true ↦ firsts_has xs ys k h | false ↦ firsts_has (xs ++ y ∷ []) ys k (has_before xs (y ∷ []) k h) ]

pub firsts_only : (xs ys : List ℕ) (k : ℕ) → has nat_eq (firsts nat_eq xs ys) k ≡ true → (has nat_eq xs k ≡ true) ⊎ IsIn k ys
firsts_only xs [] k h = inl h
firsts_only xs (y ∷ ys) k h =
    elim (has nat_eq xs y) as (λ b. has nat_eq (cond b (firsts nat_eq xs ys) (firsts nat_eq (xs ++ y ∷ []) ys)) k ≡ true → (has nat_eq xs k ≡ true) ⊎ IsIn k (y ∷ ys)) [
      | true ↦ λ g. elim (firsts_only xs ys k g) [ inl a ↦ inl a | inr i ↦ inr (inr i) ]
      | false ↦ λ g. elim (firsts_only (xs ++ y ∷ []) ys k g) [ inl a ↦ elim (has_pushed xs y k a) [ inl s ↦ inl s | inr i ↦ inr (first_in y k ys i) ] | inr i ↦ inr (inr i) ]
    ] h

pub firsts_all : (xs ys : List ℕ) (k : ℕ) → IsIn k ys → has nat_eq (firsts nat_eq xs ys) k ≡ true
firsts_all xs [] k i = absurd i
firsts_all xs (y ∷ ys) k (inl e) =
    elim (has nat_eq xs y) as (λ b. has nat_eq xs y ≡ b → has nat_eq (cond b (firsts nat_eq xs ys) (firsts nat_eq (xs ++ y ∷ []) ys)) k ≡ true) [
      | true ↦ λ h. firsts_has xs ys k (subst (λ x. has nat_eq xs x ≡ true) e h)
      | false ↦ λ h. firsts_has (xs ++ y ∷ []) ys k (has_after xs (y ∷ []) k (in_has (y ∷ []) k (inl e)))
    ] refl
firsts_all xs (y ∷ ys) k (inr i) = elim (has nat_eq xs y) as (λ b. has nat_eq (cond b (firsts nat_eq xs ys) (firsts nat_eq (xs ++ y ∷ []) ys)) k ≡ true) [ true ↦ firsts_all xs ys k i | false ↦ firsts_all (xs ++ y ∷ []) ys k i ]

-- a number is put into the set of a variable
pub inserted_more : (n : ℕ) (ss : List (List ℕ)) (v : ℕ) (ks : List ℕ) → v < length ss → ks ≡ cond (list_any (nat_eq n) (get_or ss v [])) (get_or ss v []) (get_or ss v [] ++ n ∷ []) → HasMore (n ∷ []) ss (set ss v ks) × Stands (set ss v ks) v n
inserted_more n ss v ks l e =
    let is : ks ≡ firsts nat_eq (get_or ss v []) (n ∷ []) = taken_number (get_or ss v []) ks n e in (
      set_more n ss v ks l (λ k h. ap (λ xs. has nat_eq xs k) is ∙ firsts_has (get_or ss v []) (n ∷ []) k h) (λ k h. firsts_only (get_or ss v []) (n ∷ []) k (sym (ap (λ xs. has nat_eq xs k) is) ∙ h)),
      ap (λ xs. has nat_eq xs n) (get_or-set_same ss v ks [] l ∙ is) ∙ firsts_all (get_or ss v []) (n ∷ []) n (inl refl),
    )

pub kept_more : (n : ℕ) (ss : List (List ℕ)) (v : ℕ) (ks : List ℕ) → v < length ss → ks ≡ get_or ss v [] → HasMore (n ∷ []) ss (set ss v ks)
kept_more n ss v ks l e = set_more n ss v ks l (λ k h. ap (λ xs. has nat_eq xs k) e ∙ h) (λ k h. inl (sym (ap (λ xs. has nat_eq xs k) e) ∙ h))

pub firsts_distinct : (xs ys : List ℕ) → Distinct nat_eq xs → Distinct nat_eq (firsts nat_eq xs ys)
firsts_distinct xs [] d = d
firsts_distinct xs (y ∷ ys) d =
    elim (has nat_eq xs y) as (λ b. has nat_eq xs y ≡ b → Distinct nat_eq (cond b (firsts nat_eq xs ys) (firsts nat_eq (xs ++ y ∷ []) ys))) [
      | true ↦ λ e. firsts_distinct xs ys d
      | false ↦ λ e. firsts_distinct (xs ++ y ∷ []) ys (distinct_push nat_eq nat_eq-IsSame xs y d e)
    ] refl

-- what is gathered from one variable more
pub gathered_none : (ss : List (List ℕ)) (ns : List ℕ) → ns ≡ [] → AreGathered ss [] ns
gathered_none ss ns e = record { distinct = subst (Distinct nat_eq) (sym e) tt; all = λ v k i s. absurd i; only = λ k h. (let g : false ≡ true = sym (ap (λ xs. has nat_eq xs k) e) ∙ h in absurd (cc (g))) }

pub gathered_more : (ss : List (List ℕ)) (vs ns ms : List ℕ) (v : ℕ) → AreGathered ss vs ns → ms ≡ firsts nat_eq ns (get_or ss v []) → AreGathered ss (vs ++ v ∷ []) ms
gathered_more ss vs ns ms v g e = record { distinct = subst (Distinct nat_eq) (sym e) (firsts_distinct ns (get_or ss v []) g.distinct); all = all_now; only = only_now }
  where
    last : (w k : ℕ) → IsIn w (v ∷ []) → Stands ss w k → IsIn k (get_or ss v [])
    last w k (inl f) s = has_in (get_or ss v []) k (subst (λ x. Stands ss x k) (sym f) s)
    last w k (inr f) s = absurd f

    all_now : (w k : ℕ) → IsIn w (vs ++ v ∷ []) → Stands ss w k → has nat_eq ms k ≡ true
    all_now w k i s = ap (λ xs. has nat_eq xs k) e ∙ elim (IsIn-either w vs (v ∷ []) i) [
      | inl a ↦ firsts_has ns (get_or ss v []) k (g.all w k a s)
      | inr b ↦ firsts_all ns (get_or ss v []) k (last w k b s)
    ]

    only_now : (k : ℕ) → has nat_eq ms k ≡ true → (w : ℕ) × Stands ss w k
    only_now k h = elim (firsts_only ns (get_or ss v []) k (sym (ap (λ xs. has nat_eq xs k) e) ∙ h)) [
      | inl a ↦ g.only k a
      | inr b ↦ (v, in_has (get_or ss v []) k b)
    ]

-- variables that are taken in stand nowhere
pub longer_none : (ss : List (List ℕ)) → IsLonger ss ss
longer_none ss = record { count = omega arith; same = λ v. refl }

get_past : (ss : List (List ℕ)) (v : ℕ) → get_or (ss ++ [] ∷ []) v [] ≡ get_or ss v []
get_past [] zero = refl
get_past [] (suc v) = refl
get_past (s ∷ ss) zero = refl
get_past (s ∷ ss) (suc v) = get_past ss v

pub longer_push : (ss ts us : List (List ℕ)) → IsLonger ss ts → us ≡ ts ++ [] ∷ [] → length us ≡ length ts + 1 → IsLonger ss us
longer_push ss ts us h e l = record { count = omega (arith, l, h.count); same = λ v. ap (λ xs. get_or xs v []) e ∙ get_past ts v ∙ h.same v }

pub in_taken : (cs : List Cell) (i : ℕ) (c : Cell) (v : ℕ) → i < length cs → c ≡ get_or cs i c → IsIn v (variables_among (take (i + 1) cs)) → IsIn v (variables_among (take i cs)) ⊎ IsIn v (variables_in c)
in_taken cs i c v l e h =
    IsIn-either v (variables_among (take i cs)) (variables_in c) (subst (IsIn v) (ap (λ ds. variables_among ds) (take_more cs i c l ∙ ap (λ x. take i cs ++ x ∷ []) (sym e)) ∙ among-push (take i cs) c) h)
  where
    among-push : (ds : List Cell) (d : Cell) → variables_among (ds ++ d ∷ []) ≡ variables_among ds ++ variables_in d
    among-push [] d = right (variables_in d)
      where
        right : (xs : List ℕ) → xs ++ [] ≡ xs
        right [] = refl
        right (x ∷ xs) = ap (λ ys. x ∷ ys) (right xs)
    among-push (b ∷ ds) d = ap (λ ys. variables_in b ++ ys) (among-push ds d) ∙ sym (joined (variables_in b) (variables_among ds) (variables_in d))
      where
        joined : (xs ys zs : List ℕ) → (xs ++ ys) ++ zs ≡ xs ++ (ys ++ zs)
        joined [] ys zs = refl
        joined (x ∷ xs) ys zs = ap (λ us. x ∷ us) (joined xs ys zs)

-- ===== sets that are kept as something else

map-set : {A : Type 0} (xs : List A) (f : A → List ℕ) (v : ℕ) (y : A) → map f (set xs v y) ≡ set (map f xs) v (f y)
map-set [] f v y = refl
map-set (x ∷ xs) f zero y = refl
map-set (x ∷ xs) f (suc v) y = ap (λ ss. f x ∷ ss) (map-set xs f v y)

map-at : {A : Type 0} (xs : List A) (f : A → List ℕ) (v : ℕ) (d : A) (e : List ℕ) → v < length xs → get_or (map f xs) v e ≡ f (get_or xs v d)
map-at [] f v d e l = absurd (omega (arith, l))
map-at (x ∷ xs) f zero d e l = refl
map-at (x ∷ xs) f (suc v) d e l = map-at xs f v d e (omega (arith, l))

map_long : {A : Type 0} (xs : List A) (f : A → List ℕ) (ss : List (List ℕ)) (v : ℕ) → map f xs ≡ ss → v < length ss → v < length xs
map_long xs f ss v e l = let n : length ss ≡ length xs = sym (ap length e) ∙ length-map xs f in omega (arith, l, n)

pub was_at : {A : Type 0} (xs : List A) (f : A → List ℕ) (ss : List (List ℕ)) (v : ℕ) (x : A) → map f xs ≡ ss → v < length ss → x ≡ get_or xs v x → f x ≡ get_or ss v []
was_at xs f ss v x e l g = ap f g ∙ sym (map-at xs f v x [] (map_long xs f ss v e l)) ∙ ap (λ ts. get_or ts v []) e

pub one_more_set : {A : Type 0} (xs : List A) (f : A → List ℕ) (ss : List (List ℕ)) (n v : ℕ) (x y : A) → map f xs ≡ ss → v < length ss → x ≡ get_or xs v x → f y ≡ cond (list_any (nat_eq n) (f x)) (f x) (f x ++ n ∷ []) → HasMore (n ∷ []) ss (map f (set xs v y)) × Stands (map f (set xs v y)) v n
one_more_set xs f ss n v x y e l g h =
    let was = was_at xs f ss v x e l g in
    let r = inserted_more n ss v (f y) l (h ∙ ap (λ ks. cond (list_any (nat_eq n) ks) ks (ks ++ n ∷ [])) was) in
    let now : map f (set xs v y) ≡ set ss v (f y) = map-set xs f v y ∙ ap (λ ts. set ts v (f y)) e in
    (subst (HasMore (n ∷ []) ss) (sym now) r.0, subst (λ ts. Stands ts v n) (sym now) r.1)

pub one_same_set : {A : Type 0} (xs : List A) (f : A → List ℕ) (ss : List (List ℕ)) (n v : ℕ) (x y : A) → map f xs ≡ ss → v < length ss → x ≡ get_or xs v x → f y ≡ f x → HasMore (n ∷ []) ss (map f (set xs v y))
one_same_set xs f ss n v x y e l g h =
    subst (HasMore (n ∷ []) ss) (sym (map-set xs f v y ∙ ap (λ ts. set ts v (f y)) e)) (kept_more n ss v (f y) l (h ∙ was_at xs f ss v x e l g))

-- what the walked variables stand in
pub gathered_next : (ss : List (List ℕ)) (vs ns ms : List ℕ) (i : ℕ) → i < length vs → AreGathered ss (take i vs) ns → ms ≡ firsts nat_eq ns (get_or ss (get_or vs i 0) []) → AreGathered ss (take (i + 1) vs) ms
gathered_next ss vs ns ms i l g e = subst (λ us. AreGathered ss us ms) (sym (take_more vs i 0 l)) (gathered_more ss (take i vs) ns ms (get_or vs i 0) g e)
