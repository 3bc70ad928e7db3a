-- Lists of numbers, terms and domains, place by place.
use Rattle.std.proofs.Common.{◌≡◌, ℕ, zero, suc, ◌+◌, ◌<◌, inl, inr, Bool, true, false, List, [], ◌∷◌, ◌++◌, length, map, get_or, take, Option, All, refl, ap, sym, ◌∙◌, arith}
use Rattle.std.specs.Prelude.{cond, filter, nat_eq, ◌||◌}
use Rattle.std.proofs.lemmas.Bool.{or_right}
use Rattle.std.proofs.lemmas.List.{map-append, take_more}
use Rattle.std.proofs.lemmas.List.Elements.{All-nil, All-cons}
use Rattle.pp_algebra.specs.Terms.{Tree, put, put_all, variables, variables_all}
use Rattle.pp_algebra.specs.Rows.{Domain, domain_at, IsWide}
use Rattle.pp_algebra.specs.Covers.{IsIn}
use Rattle.pp_algebra.specs.Canon.{has, place}
use Rattle.pp_algebra.specs.Numbered.{column}
use Rattle.pp_algebra.proofs.Bools.{nat_same, nat_is}
use Rattle.pp_algebra.proofs.Antisym.{IsIn-either}
use Rattle.pp_algebra.proofs.Order.{IsIn-left, IsIn-right}
use Rattle.pp_row.specs.Columns.{trees_of}
use Rattle.pp_store.specs.Patterns.{column_at}

-- ===== numbers

pub has_in : (ks : List ℕ) (k : ℕ) → has nat_eq ks k ≡ true → IsIn k ks
has_in [] k h = let g : false ≡ true = h in absurd (cc (g))
has_in (x ∷ ks) k h =
    elim (nat_eq x k) as (λ b. nat_eq x k ≡ b → (b || has nat_eq ks k) ≡ true → IsIn k (x ∷ ks)) [
      | true ↦ λ e g. inl (nat_is x k e)
      | false ↦ λ e g. inr (has_in ks k g)
    ] refl h

pub in_has : (ks : List ℕ) (k : ℕ) → IsIn k ks → has nat_eq ks k ≡ true
in_has [] k i = absurd i
in_has (x ∷ ks) k (inl e) = rw (e, nat_same k) refl
in_has (x ∷ ks) k (inr i) = or_right (nat_eq x k) (has nat_eq ks k) (in_has ks k i)

pub not_in : (ks : List ℕ) (k : ℕ) → (IsIn k ks → ⊥) → has nat_eq ks k ≡ false
not_in ks k f = go (has nat_eq ks k) refl
  where
    go : (b : Bool) → has nat_eq ks k ≡ b → b ≡ false
    go true e = absurd (f (has_in ks k e))
    go false e = refl

pub place_below : (ks : List ℕ) (k : ℕ) → has nat_eq ks k ≡ true → place nat_eq ks k < length ks
place_below [] k h = let g : false ≡ true = h in absurd (cc (g))
place_below (x ∷ ks) k h =
    elim (nat_eq x k) as (λ b. (b || has nat_eq ks k) ≡ true → cond b 0 (suc (place nat_eq ks k)) < suc (length ks)) [
      | true ↦ λ g. omega arith
      | false ↦ λ g. let m = place_below ks k g in omega (arith, m)
    ] h

pub get-place : (ks : List ℕ) (k d : ℕ) → has nat_eq ks k ≡ true → get_or ks (place nat_eq ks k) d ≡ k
get-place [] k d h = let g : false ≡ true = h in absurd (cc (g))
get-place (x ∷ ks) k d h =
    elim (nat_eq x k) as (λ b. nat_eq x k ≡ b → (b || has nat_eq ks k) ≡ true → get_or (x ∷ ks) (cond b 0 (suc (place nat_eq ks k))) d ≡ k) [
      | true ↦ λ e g. nat_is x k e
      | false ↦ λ e g. get-place ks k d g
    ] refl h

pub in_get : (ks : List ℕ) (i d : ℕ) → i < length ks → IsIn (get_or ks i d) ks
in_get [] i d l = absurd (omega (arith, l))
in_get (x ∷ ks) zero d l = inl refl
in_get (x ∷ ks) (suc i) d l = inr (in_get ks i d (omega (arith, l)))

pub get_map : {A : Type 0} (f : ℕ → A) (ks : List ℕ) (i d : ℕ) (e : A) → i < length ks → get_or (map f ks) i e ≡ f (get_or ks i d)
get_map f [] i d e l = absurd (omega (arith, l))
get_map f (x ∷ ks) zero d e l = refl
get_map f (x ∷ ks) (suc i) d e l = get_map f ks i d e (omega (arith, l))

-- ===== terms

pub column_is_at : (ts : List (Tree ℕ)) (u : ℕ) → column (trees_of ts) u ≡ column_at ts u
column_is_at [] u = refl
column_is_at (t ∷ ts) zero = refl
column_is_at (t ∷ ts) (suc u) = column_is_at ts u

-- a variable of the terms is one of the term at some place
pub found_at : (ts : List (Tree ℕ)) (v : ℕ) → IsIn v (variables_all (trees_of ts)) → (k : ℕ) × (k < length ts) × IsIn v (variables (column_at ts k))
found_at [] v i = absurd i
found_at (t ∷ ts) v i = elim (IsIn-either v (variables t) (variables_all (trees_of ts)) i) [
  | inl a ↦ (0, omega arith, a)
  | inr b ↦ (let r = found_at ts v b in (suc r.0, omega (arith, r.1), r.2))
]

pub at_found : (ts : List (Tree ℕ)) (k v : ℕ) → k < length ts → IsIn v (variables (column_at ts k)) → IsIn v (variables_all (trees_of ts))
at_found [] k v l i = absurd (omega (arith, l))
at_found (t ∷ ts) zero v l i = IsIn-left v (variables t) (variables_all (trees_of ts)) i
at_found (t ∷ ts) (suc k) v l i = IsIn-right v (variables t) (variables_all (trees_of ts)) (at_found ts k v (omega (arith, l)) i)

-- terms that are place by place what a substitution makes of others
pub each_put : (s : ℕ → Tree ℕ) (ts us : List (Tree ℕ)) → length us ≡ length ts → ((k : ℕ) → k < length ts → column_at us k ≡ put s (column_at ts k)) → trees_of us ≡ put_all s (trees_of ts)
each_put s [] [] l h = refl
each_put s [] (u ∷ us) l h = absurd (omega (arith, l))
each_put s (t ∷ ts) [] l h = absurd (omega (arith, l))
each_put s (t ∷ ts) (u ∷ us) l h = rw (h 0 (omega arith), each_put s ts us (omega (arith, l)) (λ k m. h (suc k) (omega (arith, m)))) refl

-- ===== domains

pub each_wide : (ds : List (Option Domain)) → ((v : ℕ) → v < length ds → IsWide (domain_at ds v)) → All IsWide ds
each_wide [] h = All-nil IsWide
each_wide (d ∷ ds) h = All-cons IsWide d ds (h 0 (omega arith)) (each_wide ds (λ v l. h (suc v) (omega (arith, l))))

-- ===== lists that are walked

pub map_more : {A B : Type 0} (f : A → B) (xs : List A) (out new : List B) (i : ℕ) (d : A) (u : B) → i < length xs → out ≡ map f (take i xs) → u ≡ f (get_or xs i d) → new ≡ out ++ u ∷ [] → new ≡ map f (take (i + 1) xs)
map_more f xs out new i d u l e g n =
    n ∙ ap (λ us. us ++ u ∷ []) e ∙ ap (λ x. map f (take i xs) ++ x ∷ []) g ∙ sym (map-append f (take i xs) (get_or xs i d ∷ [])) ∙ ap (map f) (sym (take_more xs i d l))

pub filter_more : (p : ℕ → Bool) (xs : List ℕ) (i : ℕ) → i < length xs → filter p (take (i + 1) xs) ≡ filter p (take i xs) ++ cond (p (get_or xs i 0)) (get_or xs i 0 ∷ []) []
filter_more p xs i l = ap (filter p) (take_more xs i 0 l) ∙ pushed (take i xs)
  where
    pushed : (ys : List ℕ) → filter p (ys ++ get_or xs i 0 ∷ []) ≡ filter p ys ++ cond (p (get_or xs i 0)) (get_or xs i 0 ∷ []) []
    pushed [] = elim (p (get_or xs i 0)) as (λ b. cond b (get_or xs i 0 ∷ []) [] ≡ cond b (get_or xs i 0 ∷ []) []) [ true ↦ refl | false ↦ refl ]
    pushed (y ∷ ys) = elim (p y) as (λ b. cond b (y ∷ filter p (ys ++ get_or xs i 0 ∷ [])) (filter p (ys ++ get_or xs i 0 ∷ [])) ≡ cond b (y ∷ filter p ys) (filter p ys) ++ cond (p (get_or xs i 0)) (get_or xs i 0 ∷ []) []) [
      | true ↦ ap (λ zs. y ∷ zs) (pushed ys)
      | false ↦ pushed ys
    ]
