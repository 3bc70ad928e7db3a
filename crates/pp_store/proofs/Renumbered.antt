-- A store that is kept under any numbers: its faces, and what a row that is applied makes of it.
use Rattle.std.proofs.Common.{◌≡◌, ℕ, zero, suc, ◌<◌, ◌⊎◌, inl, inr, Bool, true, false, List, [], ◌∷◌, ◌++◌, length, map, get_or, Option, Some, None, refl, ap, sym, ◌∙◌, subst, arith}
use Rattle.std.specs.Prelude.{cond, nat_eq}
use Rattle.std.specs.Cmp.{both_ways}
use Rattle.std.proofs.lemmas.Bool.{or_right}
use Rattle.std.proofs.lemmas.List.{map-append}
use Rattle.std.proofs.lemmas.List.Concat.{flat_map_single}
use Rattle.pp_algebra.specs.Terms.{Tree, variable, Trees, none, more, put, put_all, variables, variables_all}
use Rattle.pp_algebra.specs.Rows.{Domains, Pattern, Row, domain_at}
use Rattle.pp_algebra.specs.Covers.{IsIn}
use Rattle.pp_algebra.specs.Canon.{has, place, firsts, canon, Distinct}
use Rattle.pp_algebra.specs.Numbered.{column}
use Rattle.pp_algebra.proofs.Bools.{nat_same, nat_is}
use Rattle.pp_algebra.proofs.Put.{put-put, put_all-put_all}
use Rattle.pp_algebra.proofs.Order.{IsIn-left, IsIn-right, variables-put, variables_all-put_all}
use Rattle.pp_algebra.proofs.Antisym.{put_all-agree, IsIn-either}
use Rattle.pp_algebra.proofs.CanonLemmas.{nat_eq-IsSame, at, at-place, has-all, domain_at-place}
use Rattle.pp_algebra.proofs.Renamed.{comes_from, canon_renamed}
use Rattle.pp_sld.specs.Goals.{Goal}
use Rattle.pp_propagation.specs.Stores.{face, face_variables, either_domains, same_either, replaced_by, apply}
use Rattle.pp_propagation.proofs.StoreRows.{same_either-IsSame}
use Rattle.pp_unify.proofs.Adding.{firsts-from}
use Rattle.pp_store.specs.Replacing.{replacement}
use Rattle.pp_store.specs.Written.{written}

-- ===== columns

pub column-put : (s : ℕ → Tree ℕ) (ts : Trees ℕ) (u : ℕ) → column (put_all s ts) u ≡ put s (column ts u)
column-put s none u = refl
column-put s (more t ts) zero = refl
column-put s (more t ts) (suc u) = column-put s ts u

pub column_in : (ts : Trees ℕ) (u v : ℕ) → IsIn v (variables (column ts u)) → IsIn v (variables_all ts)
column_in none u v i = absurd i
column_in (more t ts) zero v i = IsIn-left v (variables t) (variables_all ts) i
column_in (more t ts) (suc u) v i = IsIn-right v (variables t) (variables_all ts) (column_in ts u v i)

-- a variable of a goal's arguments, as they stand under the columns, is one of the columns
pub under_in : (columns arguments : Trees ℕ) (v : ℕ) → IsIn v (variables_all (put_all (column columns) arguments)) → IsIn v (variables_all columns)
under_in columns arguments v i =
    let j = comes_from (λ u. variables (column columns u)) (variables_all arguments) v (subst (IsIn v) (variables_all-put_all (column columns) arguments) i) in
    column_in columns j.0 v j.2

-- ===== other numbers, that can be taken back

pub first_in : (x y : ℕ) (xs : List ℕ) → IsIn y (x ∷ []) → IsIn y (x ∷ xs)
first_in x y xs (inl e) = inl e
first_in x y xs (inr h) = absurd h

module _ (f g : ℕ → ℕ) where
  abbrev AreBack : List ℕ → Type 0
  AreBack xs = (x : ℕ) → IsIn x xs → g (f x) ≡ x

  eq-map : (x v : ℕ) → g (f x) ≡ x → g (f v) ≡ v → nat_eq (f x) (f v) ≡ nat_eq x v
  eq-map x v a b = both_ways (nat_eq (f x) (f v)) (nat_eq x v)
      (λ h. subst (λ y. nat_eq x y ≡ true) (sym a ∙ ap g (nat_is (f x) (f v) h) ∙ b) (nat_same x))
      (λ h. subst (λ y. nat_eq (f x) (f y) ≡ true) (nat_is x v h) (nat_same (f x)))

  pub has-map : (xs : List ℕ) (v : ℕ) → AreBack xs → g (f v) ≡ v → has nat_eq (map f xs) (f v) ≡ has nat_eq xs v
  has-map [] v h b = refl
  has-map (x ∷ xs) v h b = rw (eq-map x v (h x (inl refl)) b, has-map xs v (λ y i. h y (inr i)) b) refl

  pub place-map : (xs : List ℕ) (v : ℕ) → AreBack xs → g (f v) ≡ v → place nat_eq (map f xs) (f v) ≡ place nat_eq xs v
  place-map [] v h b = refl
  place-map (x ∷ xs) v h b = rw (eq-map x v (h x (inl refl)) b, place-map xs v (λ y i. h y (inr i)) b) refl

  back-push : (seen xs : List ℕ) (x : ℕ) → AreBack seen → AreBack (x ∷ xs) → AreBack (seen ++ x ∷ [])
  back-push seen xs x h k y i = elim (IsIn-either y seen (x ∷ []) i) [ inl a ↦ h y a | inr b ↦ k y (first_in x y xs b) ]

  pub firsts-map : (seen xs : List ℕ) → AreBack seen → AreBack xs → firsts nat_eq (map f seen) (map f xs) ≡ map f (firsts nat_eq seen xs)
  firsts-map seen [] h k = refl
  firsts-map seen (x ∷ xs) h k =
      ap (λ b. cond b (firsts nat_eq (map f seen) (map f xs)) (firsts nat_eq (map f seen ++ f x ∷ []) (map f xs))) (has-map seen x h (k x (inl refl)))
      ∙ elim (has nat_eq seen x) as (λ b. cond b (firsts nat_eq (map f seen) (map f xs)) (firsts nat_eq (map f seen ++ f x ∷ []) (map f xs)) ≡ map f (cond b (firsts nat_eq seen xs) (firsts nat_eq (seen ++ x ∷ []) xs))) [
        | true ↦ firsts-map seen xs h (λ y i. k y (inr i))
        | false ↦ ap (λ ys. firsts nat_eq ys (map f xs)) (sym (map-append f seen (x ∷ []))) ∙ firsts-map (seen ++ x ∷ []) xs (back-push seen xs x h k) (λ y i. k y (inr i))
      ]

pub variables-renamed : (f : ℕ → ℕ) (ts : Trees ℕ) → variables_all (put_all (λ v. variable (f v)) ts) ≡ map f (variables_all ts)
variables-renamed f ts = variables_all-put_all (λ v. variable (f v)) ts ∙ flat_map_single f (variables_all ts)

-- ===== distinct numbers

pub has-get : (ns : List ℕ) (w : ℕ) → w < length ns → has nat_eq ns (get_or ns w 0) ≡ true
has-get [] w l = absurd (omega (arith, l))
has-get (x ∷ ns) zero l = rw (nat_same x) refl
has-get (x ∷ ns) (suc w) l = or_right (nat_eq x (get_or ns w 0)) (has nat_eq ns (get_or ns w 0)) (has-get ns w (omega (arith, l)))

pub has_apart : (ns : List ℕ) (x y : ℕ) → has nat_eq ns x ≡ false → has nat_eq ns y ≡ true → nat_eq x y ≡ false
has_apart ns x y f t = go (nat_eq x y) refl
  where
    go : (b : Bool) → nat_eq x y ≡ b → b ≡ false
    go true e = let g : has nat_eq ns x ≡ true = subst (λ z. has nat_eq ns z ≡ true) (sym (nat_is x y e)) t in absurd (cc (f, g))
    go false e = refl

pub place-get : (ns : List ℕ) → Distinct nat_eq ns → (w : ℕ) → w < length ns → place nat_eq ns (get_or ns w 0) ≡ w
place-get [] d w l = absurd (omega (arith, l))
place-get (x ∷ ns) d zero l = rw (nat_same x) refl
place-get (x ∷ ns) d (suc w) l =
    let m : w < length ns = omega (arith, l) in
    ap (λ b. cond b 0 (suc (place nat_eq ns (get_or ns w 0)))) (has_apart ns x (get_or ns w 0) d.0 (has-get ns w m)) ∙ ap suc (place-get ns d.1 w m)

-- ===== a pattern and its row

abbrev or_zero : Option ℕ → ℕ
or_zero None = 0
or_zero (Some v) = v

module _ (p : Pattern ℕ) where
  abbrev names : List ℕ
  names = firsts nat_eq [] (variables_all p.columns)

  abbrev to : ℕ → ℕ
  to v = place nat_eq names v

  abbrev from : ℕ → ℕ
  from k = or_zero (at nat_eq names k)

  named : (v : ℕ) → IsIn v (variables_all p.columns) → has nat_eq names v ≡ true
  named v i = has-all nat_eq nat_eq-IsSame [] (variables_all p.columns) v i

  back : (v : ℕ) → IsIn v (variables_all p.columns) → from (to v) ≡ v
  back v i = ap or_zero (at-place nat_eq nat_eq-IsSame names v (named v i))

  under_canon : (ts : Trees ℕ) → put_all (column (canon nat_eq p).columns) ts ≡ put_all (λ v. variable (to v)) (put_all (column p.columns) ts)
  under_canon ts =
      put_all-agree (column (put_all (λ v. variable (to v)) p.columns)) (λ u. put (λ v. variable (to v)) (column p.columns u)) ts (λ u i. column-put (λ v. variable (to v)) p.columns u)
      ∙ sym (put_all-put_all (λ v. variable (to v)) (column p.columns) ts)

  -- a face under the row is the face under the pattern
  pub face_of : (g : Goal ℕ) → face (canon nat_eq p) g ≡ canon nat_eq (record { columns = put_all (column p.columns) g.arguments; domains = p.domains })
  face_of g =
      ap (λ ts. canon nat_eq (record { columns = ts; domains = domain_at (map p.domains names) })) (under_canon g.arguments)
      ∙ canon_renamed nat_eq nat_eq-IsSame to from (record { columns = put_all (column p.columns) g.arguments; domains = p.domains }) (domain_at (map p.domains names))
      (λ v i. back v (under_in p.columns g.arguments v i))
      (λ v i. domain_at-place nat_eq nat_eq-IsSame p.domains names v (named v (under_in p.columns g.arguments v i)))

  -- the pattern's variables in a goal's face
  abbrev pub names_under : Goal ℕ → List ℕ
  names_under g = firsts nat_eq [] (variables_all (put_all (column p.columns) g.arguments))

  names_in : (g : Goal ℕ) (v : ℕ) → IsIn v (names_under g) → IsIn v (variables_all p.columns)
  names_in g v i = under_in p.columns g.arguments v (firsts-from (variables_all (put_all (column p.columns) g.arguments)) v i)

  pub names-canon : (g : Goal ℕ) → face_variables (canon nat_eq p) g ≡ map to (names_under g)
  names-canon g =
      ap (λ ts. firsts nat_eq [] (variables_all ts)) (under_canon g.arguments)
      ∙ ap (firsts nat_eq []) (variables-renamed to (put_all (column p.columns) g.arguments))
      ∙ firsts-map to from [] (variables_all (put_all (column p.columns) g.arguments)) (λ x i. absurd i) (λ x i. back x (under_in p.columns g.arguments x i))

  has-canon : (g : Goal ℕ) (v : ℕ) → IsIn v (variables_all p.columns) → has nat_eq (face_variables (canon nat_eq p) g) (to v) ≡ has nat_eq (names_under g) v
  has-canon g v i = ap (λ vs. has nat_eq vs (to v)) (names-canon g) ∙ has-map to from (names_under g) v (λ x j. back x (names_in g x j)) (back v i)

  place-canon : (g : Goal ℕ) (v : ℕ) → IsIn v (variables_all p.columns) → place nat_eq (face_variables (canon nat_eq p) g) (to v) ≡ place nat_eq (names_under g) v
  place-canon g v i = ap (λ vs. place nat_eq vs (to v)) (names-canon g) ∙ place-map to from (names_under g) v (λ x j. back x (names_in g x j)) (back v i)

-- ===== a row that is applied

module _ (p : Pattern ℕ) (given : Row) (g : Goal ℕ) (numbers : List ℕ) (ds : Domains ℕ)
    (distinct : Distinct nat_eq numbers)
    (many : (w : ℕ) → IsIn w (variables_all given.columns) → w < length numbers)
    (apart : (v : ℕ) → IsIn v (variables_all p.columns) → has nat_eq (names_under p g) v ≡ false → has nat_eq numbers v ≡ false)
    (domains : (v : ℕ) → ds v ≡ written numbers (domain_at given.domains) p.domains v) where
  abbrev faced : List ℕ
  faced = face_variables (canon nat_eq p) g

  abbrev number : ℕ ⊎ ℕ → ℕ
  number (inl u) = from p u
  number (inr w) = get_or numbers w 0

  abbrev kind : ℕ → ℕ ⊎ ℕ
  kind k = cond (has nat_eq numbers k) (inr (place nat_eq numbers k)) (inl (to p k))

  abbrev either : Domains (ℕ ⊎ ℕ)
  either = either_domains (domain_at (map p.domains (names p))) (domain_at given.domains)

  abbrev each : ℕ → Tree (ℕ ⊎ ℕ)
  each v = replaced_by given faced (to p v)

  abbrev replaced : Pattern (ℕ ⊎ ℕ)
  replaced = record { columns = put_all (replaced_by given faced) (canon nat_eq p).columns; domains = either }

  replaced-is : replaced.columns ≡ put_all each p.columns
  replaced-is = put_all-put_all (replaced_by given faced) (λ v. variable (to p v)) p.columns

  abbrev one : ℕ → Tree (ℕ ⊎ ℕ)
  one v = cond (has nat_eq (names_under p g) v) (put (λ w. variable (inr w)) (column given.columns (place nat_eq (names_under p g) v))) (variable (inl (to p v)))

  each-is : (v : ℕ) → IsIn v (variables_all p.columns) → each v ≡ one v
  each-is v i =
      ap (λ b. cond b (put (λ w. variable (inr w)) (column given.columns (place nat_eq faced (to p v)))) (variable (inl (to p v)))) (has-canon p g v i)
      ∙ ap (λ k. cond (has nat_eq (names_under p g) v) (put (λ w. variable (inr w)) (column given.columns k)) (variable (inl (to p v)))) (place-canon p g v i)

  abbrev IsTakenBack : ℕ ⊎ ℕ → Type 0
  IsTakenBack x = (kind (number x) ≡ x) × (ds (number x) ≡ either x)

  fresh_back : (w : ℕ) → IsIn w (variables_all given.columns) → IsTakenBack (inr w)
  fresh_back w i =
      let l = many w i in
      let h = has-get numbers w l in
      let k = place-get numbers distinct w l in
      let n = get_or numbers w 0 in (
        ap (λ b. cond b (inr (place nat_eq numbers n)) (inl (to p n))) h ∙ ap inr k,
        domains n ∙ ap (λ b. cond b (domain_at given.domains (place nat_eq numbers n)) (p.domains n)) h ∙ ap (domain_at given.domains) k,
      )

  old_back : (v : ℕ) → IsIn v (variables_all p.columns) → has nat_eq (names_under p g) v ≡ false → IsTakenBack (inl (to p v))
  old_back v i e =
      let h = apart v i e in (
        ap kind (back p v i) ∙ ap (λ b. cond b (inr (place nat_eq numbers v)) (inl (to p v))) h,
        ap ds (back p v i) ∙ domains v ∙ ap (λ b. cond b (domain_at given.domains (place nat_eq numbers v)) (p.domains v)) h
            ∙ sym (domain_at-place nat_eq nat_eq-IsSame p.domains (names p) v (named p v i)),
      )

  from_given : (w : ℕ) (x : ℕ ⊎ ℕ) → IsIn w (variables_all given.columns) → IsIn x (inr w ∷ []) → IsTakenBack x
  from_given w x i (inl e) = subst IsTakenBack e (fresh_back w i)
  from_given w x i (inr h) = absurd h

  one_back : (v : ℕ) (x : ℕ ⊎ ℕ) → IsIn v (variables_all p.columns) → (b : Bool) → has nat_eq (names_under p g) v ≡ b
      → IsIn x (variables (cond b (put (λ w. variable (inr w)) (column given.columns (place nat_eq (names_under p g) v))) (variable (inl (to p v))))) → IsTakenBack x
  one_back v x i true e h =
      let j = comes_from (λ w. variables (variable (inr w))) (variables (column given.columns (place nat_eq (names_under p g) v))) x (subst (IsIn x) (variables-put (λ w. variable (inr w)) (column given.columns (place nat_eq (names_under p g) v))) h) in
      from_given j.0 x (column_in given.columns (place nat_eq (names_under p g) v) j.0 j.1) j.2
  one_back v x i false e (inl f) = subst IsTakenBack f (old_back v i e)
  one_back v x i false e (inr h) = absurd h

  taken_back : (x : ℕ ⊎ ℕ) → IsIn x (variables_all replaced.columns) → IsTakenBack x
  taken_back x i =
      let j = comes_from (λ v. variables (each v)) (variables_all p.columns) x (subst (IsIn x) (ap variables_all replaced-is ∙ variables_all-put_all each p.columns) i) in
      one_back j.0 x j.1 (has nat_eq (names_under p g) j.0) refl (subst (λ t. IsIn x (variables t)) (each-is j.0 j.1) j.2)

  module _ (terms : Trees ℕ) (renamed : terms ≡ put_all (λ w. variable (get_or numbers w 0)) given.columns) where
    one-is : (v : ℕ) → IsIn v (variables_all p.columns) → put (λ x. variable (number x)) (one v) ≡ replacement (names_under p g) terms v
    one-is v i =
        let k = place nat_eq (names_under p g) v in
        elim (has nat_eq (names_under p g) v) as (λ b. put (λ x. variable (number x)) (cond b (put (λ w. variable (inr w)) (column given.columns k)) (variable (inl (to p v)))) ≡ cond b (column terms k) (variable v)) [
          | true ↦ put-put (λ x. variable (number x)) (λ w. variable (inr w)) (column given.columns k) ∙ sym (column-put (λ w. variable (get_or numbers w 0)) given.columns k) ∙ ap (λ ts. column ts k) (sym renamed)
          | false ↦ ap variable (back p v i)
        ]

    columns-are : put_all (λ x. variable (number x)) replaced.columns ≡ put_all (replacement (names_under p g) terms) p.columns
    columns-are =
        ap (put_all (λ x. variable (number x))) replaced-is
        ∙ put_all-put_all (λ x. variable (number x)) each p.columns
        ∙ put_all-agree (λ v. put (λ x. variable (number x)) (each v)) (replacement (names_under p g) terms) p.columns (λ v i. ap (put (λ x. variable (number x))) (each-is v i) ∙ one-is v i)

    pub apply_of : canon nat_eq (record { columns = put_all (replacement (names_under p g) terms) p.columns; domains = ds }) ≡ apply (canon nat_eq p) g given
    apply_of =
        ap (λ ts. canon nat_eq (record { columns = ts; domains = ds })) (sym columns-are)
        ∙ canon_renamed same_either same_either-IsSame number kind replaced ds (λ x i. (taken_back x i).0) (λ x i. (taken_back x i).1)
