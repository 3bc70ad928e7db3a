-- The numbers that the variables of a row get that is applied, and lists that are written at several places.
use Rattle.std.proofs.Common.{◌≡◌, ℕ, zero, suc, ◌+◌, ◌<◌, ◌≤◌, ◌⊎◌, inl, inr, Bool, true, false, List, [], ◌∷◌, ◌++◌, length, get_or, set, take, Option, refl, ap, sym, ◌∙◌, subst, arith, ℤ}
use Rattle.std.specs.Prelude.{cond, nat_eq, ◌||◌}
use Rattle.std.proofs.lemmas.Bool.{cases_eq, ne_eqb}
use Rattle.std.proofs.lemmas.List.{length-set}
use Rattle.pp_algebra.specs.Covers.{IsIn}
use Rattle.pp_algebra.specs.Canon.{has, place, Distinct}
use Rattle.pp_algebra.specs.Rows.{domain_at}
use Rattle.pp_algebra.proofs.Bools.{nat_same, nat_is}
use Rattle.pp_propagation.specs.Histories.{numbers_from}
use Rattle.pp_row.specs.Columns.{sets_of, set_by}
use Rattle.pp_store.specs.Numbers.{AreNumbers}
use Rattle.pp_store.specs.Written.{written}
use Rattle.pp_store.proofs.Lists.{has_in, in_has, not_in}
use Rattle.pp_store.proofs.Noting.{has_before}
use Rattle.pp_store.proofs.Renumbered.{has_apart, has-get}

-- ===== fresh numbers

from_in : (first n v : ℕ) → IsIn v (numbers_from first n) → (first ≤ v) × (v < first + n)
from_in first zero v i = absurd i
from_in first (suc n) v (inl e) = (omega (arith, e), omega (arith, e))
from_in first (suc n) v (inr i) = let r = from_in (suc first) n v i in (omega (arith, r.0), omega (arith, r.1))

from-length : (first n : ℕ) → length (numbers_from first n) ≡ n
from-length first zero = refl
from-length first (suc n) = ap suc (from-length (suc first) n)

from_distinct : (first n : ℕ) → Distinct nat_eq (numbers_from first n)
from_distinct first zero = tt
from_distinct first (suc n) = (not_in (numbers_from (suc first) n) first (λ i. (let r = from_in (suc first) n first i in absurd (omega (arith, r.0)))), from_distinct (suc first) n)

pub fresh_are : (first n : ℕ) (ns : List ℕ) → ns ≡ numbers_from first n → AreNumbers first n [] ns
fresh_are first n ns e = record {
  many = ap length e ∙ from-length first n;
  distinct = subst (Distinct nat_eq) (sym e) (from_distinct first n);
  old = λ v h l. (let r = from_in first n v (subst (IsIn v) e (has_in ns v h)) in absurd (omega (arith, r.0, l)));
  below = λ v h. (from_in first n v (subst (IsIn v) e (has_in ns v h))).1;
}

pub from_push : (first n : ℕ) (ns ms : List ℕ) (x : ℕ) → ns ≡ numbers_from first n → x ≡ first + n → ms ≡ ns ++ x ∷ [] → ms ≡ numbers_from first (suc n)
from_push first n ns ms x e f g = g ∙ ap (λ ys. ys ++ x ∷ []) e ∙ ap (λ y. numbers_from first n ++ y ∷ []) f ∙ pushed first n
  where
    pushed : (first n : ℕ) → numbers_from first n ++ (first + n) ∷ [] ≡ numbers_from first (suc n)
    pushed first zero = ap (λ y. y ∷ []) (omega arith)
    pushed first (suc n) = ap (λ ys. first ∷ ys) (ap (λ y. numbers_from (suc first) n ++ y ∷ []) (omega arith) ∙ pushed (suc first) n)

-- ===== names in place of fresh numbers

in_set : (ns : List ℕ) (w x v : ℕ) → IsIn v (set ns w x) → IsIn v ns ⊎ (v ≡ x)
in_set [] w x v i = absurd i
in_set (y ∷ ns) zero x v (inl e) = inr (sym e)
in_set (y ∷ ns) zero x v (inr i) = inl (inr i)
in_set (y ∷ ns) (suc w) x v (inl e) = inl (inl e)
in_set (y ∷ ns) (suc w) x v (inr i) = elim (in_set ns w x v i) [ inl a ↦ inl (inr a) | inr b ↦ inr b ]

distinct_set : (ns : List ℕ) (w x : ℕ) → Distinct nat_eq ns → (IsIn x ns → ⊥) → Distinct nat_eq (set ns w x)
distinct_set [] w x d f = d
distinct_set (y ∷ ns) zero x d f = (not_in ns x (λ i. f (inr i)), d.1)
distinct_set (y ∷ ns) (suc w) x d f = (
  not_in (set ns w x) y (λ i. elim (in_set ns w x y i) [
    | inl a ↦ (let g : true ≡ false = sym (in_has ns y a) ∙ d.0 in absurd (cc (g)))
    | inr e ↦ f (inl e)
  ]),
  distinct_set ns w x d.1 (λ i. f (inr i)),
)

pub name_stays : (first count name : ℕ) (taken ns : List ℕ) → AreNumbers first count taken ns → AreNumbers first count (taken ++ name ∷ []) ns
name_stays first count name taken ns h = record { many = h.many; distinct = h.distinct; old = λ v i l. has_before taken (name ∷ []) v (h.old v i l); below = h.below }

pub name_taken : (first count name w : ℕ) (taken ns : List ℕ) → AreNumbers first count taken ns → has nat_eq taken name ≡ false → name < first → AreNumbers first count (taken ++ name ∷ []) (set ns w name)
name_taken first count name w taken ns h free l = record {
  many = length-set ns w name ∙ h.many;
  distinct = distinct_set ns w name h.distinct (λ i. (let g : true ≡ false = sym (h.old name (in_has ns name i) l) ∙ free in absurd (cc (g))));
  old = λ v i m. elim (in_set ns w name v (has_in (set ns w name) v i)) [
    | inl a ↦ has_before taken (name ∷ []) v (h.old v (in_has ns v a) m)
    | inr e ↦ subst (λ x. has nat_eq (taken ++ name ∷ []) x ≡ true) (sym e) (has_last taken name)
  ];
  below = λ v i. elim (in_set ns w name v (has_in (set ns w name) v i)) [ inl a ↦ h.below v (in_has ns v a) | inr e ↦ omega (arith, e, l) ];
}
  where
    has_last : (xs : List ℕ) (x : ℕ) → has nat_eq (xs ++ x ∷ []) x ≡ true
    has_last [] x = rw (nat_same x) refl
    has_last (y ∷ xs) x = elim (nat_eq y x) as (λ b. (b || has nat_eq (xs ++ x ∷ []) x) ≡ true) [ true ↦ refl | false ↦ has_last xs x ]

in_taken : (ns : List ℕ) (i v : ℕ) → IsIn v (take i ns) → IsIn v ns
in_taken [] zero v h = h
in_taken [] (suc i) v h = h
in_taken (x ∷ ns) zero v h = absurd h
in_taken (x ∷ ns) (suc i) v (inl e) = inl e
in_taken (x ∷ ns) (suc i) v (inr h) = inr (in_taken ns i v h)

pub not_taken : (ns : List ℕ) (i : ℕ) → Distinct nat_eq ns → i < length ns → has nat_eq (take i ns) (get_or ns i 0) ≡ false
not_taken [] i d l = absurd (omega (arith, l))
not_taken (x ∷ ns) zero d l = refl
not_taken (x ∷ ns) (suc i) d l = rw (has_apart ns x (get_or ns i 0) d.0 (has-get ns i (omega (arith, l))), not_taken ns i d.1 (omega (arith, l))) refl

-- ===== writing at several places

written-cons : {A : Type 0} (p : ℕ) (ps : List ℕ) (new old : ℕ → A) (v : ℕ) → written (p ∷ ps) new old v ≡ cond (nat_eq p v) (new 0) (written ps (λ i. new (suc i)) old v)
written-cons p ps new old v = elim (nat_eq p v) as (λ b. cond (b || has nat_eq ps v) (new (cond b 0 (suc (place nat_eq ps v)))) (old v) ≡ cond b (new 0) (cond (has nat_eq ps v) (new (suc (place nat_eq ps v))) (old v))) [ true ↦ refl | false ↦ refl ]

written-suc : {A : Type 0} (ps : List ℕ) (new old : ℕ → A) (i v : ℕ) → Distinct nat_eq ps → i < length ps → written (take (suc i) ps) new old v ≡ cond (nat_eq (get_or ps i 0) v) (new i) (written (take i ps) new old v)
written-suc [] new old i v d l = absurd (omega (arith, l))
written-suc (p ∷ ps) new old zero v d l = written-cons p [] new old v
written-suc (p ∷ ps) new old (suc i) v d l =
    written-cons p (take (suc i) ps) new old v
    ∙ ap (cond (nat_eq p v) (new 0)) (written-suc ps (λ j. new (suc j)) old i v d.1 (omega (arith, l)))
    ∙ swapped (nat_eq p v) (nat_eq (get_or ps i 0) v) (new 0) (new (suc i)) (written (take i ps) (λ j. new (suc j)) old v) not_both
    ∙ ap (cond (nat_eq (get_or ps i 0) v) (new (suc i))) (sym (written-cons p (take i ps) new old v))
  where
    not_both : nat_eq p v ≡ true → nat_eq (get_or ps i 0) v ≡ true → ⊥
    not_both e f =
        let g : p ≡ get_or ps i 0 = nat_is p v e ∙ sym (nat_is (get_or ps i 0) v f) in
        let h : nat_eq p (get_or ps i 0) ≡ false = has_apart ps p (get_or ps i 0) d.0 (has-get ps i (omega (arith, l))) in
        let k : nat_eq p (get_or ps i 0) ≡ true = subst (λ x. nat_eq p x ≡ true) g (nat_same p) in
        absurd (cc (h, k))

    swapped : {A : Type 0} (a b : Bool) (x y z : A) → (a ≡ true → b ≡ true → ⊥) → cond a x (cond b y z) ≡ cond b y (cond a x z)
    swapped true true x y z h = absurd (h refl refl)
    swapped true false x y z h = refl
    swapped false true x y z h = refl
    swapped false false x y z h = refl

-- one place more
pub written-next : {A : Type 0} (ps : List ℕ) (new old : ℕ → A) (i v : ℕ) → Distinct nat_eq ps → i < length ps → written (take (i + 1) ps) new old v ≡ cond (nat_eq (get_or ps i 0) v) (new i) (written (take i ps) new old v)
written-next ps new old i v d l = ap (λ n. written (take n ps) new old v) (let e : i + 1 ≡ suc i = omega arith in e) ∙ written-suc ps new old i v d l

-- an item of the list after one more was put at its place
pub put_next : {A : Type 0} (ps : List ℕ) (new old : ℕ → A) (i v : ℕ) (now next : ℕ → A) → Distinct nat_eq ps → i < length ps
    → now v ≡ written (take i ps) new old v
    → (v ≡ get_or ps i 0 → next v ≡ new i)
    → ((v ≡ get_or ps i 0 → ⊥) → next v ≡ now v)
    → next v ≡ written (take (i + 1) ps) new old v
put_next ps new old i v now next d l h there elsewhere =
    elim (cases_eq v (get_or ps i 0)) [
      | inl e ↦ there e ∙ sym (ap (λ b. cond b (new i) (written (take i ps) new old v)) (subst (λ x. nat_eq (get_or ps i 0) x ≡ true) (sym e) (nat_same (get_or ps i 0))))
      | inr f ↦ elsewhere f ∙ h ∙ sym (ap (λ b. cond b (new i) (written (take i ps) new old v)) (ne_eqb (get_or ps i 0) v (λ e. f (sym e))))
    ] ∙ sym (written-next ps new old i v d l)

pub domain-set_same : (ds : List (Option (List (ℤ × ℤ)))) (k : ℕ) (d : Option (List (ℤ × ℤ))) → k < length ds → domain_at (sets_of (set ds k d)) k ≡ set_by d
domain-set_same [] k d l = absurd (omega (arith, l))
domain-set_same (x ∷ ds) zero d l = refl
domain-set_same (x ∷ ds) (suc k) d l = domain-set_same ds k d (omega (arith, l))

pub domain-set_other : (ds : List (Option (List (ℤ × ℤ)))) (k v : ℕ) (d : Option (List (ℤ × ℤ))) → (v ≡ k → ⊥) → domain_at (sets_of (set ds k d)) v ≡ domain_at (sets_of ds) v
domain-set_other [] k v d f = refl
domain-set_other (x ∷ ds) zero zero d f = absurd (f refl)
domain-set_other (x ∷ ds) zero (suc v) d f = refl
domain-set_other (x ∷ ds) (suc k) zero d f = refl
domain-set_other (x ∷ ds) (suc k) (suc v) d f = domain-set_other ds k v d (λ e. f (ap suc e))

-- ===== lists of numbers that are walked

in_suc : (ns : List ℕ) (i d x : ℕ) → i < length ns → IsIn x (take (suc i) ns) → IsIn x (take i ns) ⊎ (get_or ns i d ≡ x)
in_suc [] i d x l h = absurd (omega (arith, l))
in_suc (n ∷ ns) zero d x l (inl e) = inr e
in_suc (n ∷ ns) zero d x l (inr h) = absurd h
in_suc (n ∷ ns) (suc i) d x l (inl e) = inl (inl e)
in_suc (n ∷ ns) (suc i) d x l (inr h) = elim (in_suc ns i d x (omega (arith, l)) h) [ inl a ↦ inl (inr a) | inr e ↦ inr e ]

pub in_next : (ns : List ℕ) (i d x : ℕ) → i < length ns → IsIn x (take (i + 1) ns) → IsIn x (take i ns) ⊎ (get_or ns i d ≡ x)
in_next ns i d x l h = in_suc ns i d x l (subst (λ n. IsIn x (take n ns)) (let e : i + 1 ≡ suc i = omega arith in e) h)

pub set-get : (ns : List ℕ) (w : ℕ) → set ns w (get_or ns w 0) ≡ ns
set-get [] w = refl
set-get (n ∷ ns) zero = refl
set-get (n ∷ ns) (suc w) = ap (λ ms. n ∷ ms) (set-get ns w)
