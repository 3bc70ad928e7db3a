-- The domain of a variable for two terms that differ is `any` or has at least two integers; so the least generalisation of rows is a row.
use Rattle.std.proofs.Common.{◌≡◌, ℕ, ℤ, zero, suc, ◌≤◌, ◌⊎◌, inl, inr, Bool, true, false, List, [], ◌∷◌, ◌++◌, map, Option, Some, None, refl, ap, sym, ◌∙◌, subst}
use Rattle.std.specs.Prelude.{cond, ◌&&◌, nat_eq}
use Rattle.std.specs.FinSet as set
use Rattle.std.specs.Ordering.{int_eq}
use Rattle.std.specs.Cmp.{int_cmp_total}
use Rattle.std.proofs.Math.Bool.{or-true}
use Rattle.std.proofs.lemmas.List.Elements.{All-nil, All-cons, All-head, All-tail}
use Rattle.pp_algebra.specs.Terms.{Tree, int, node, variable, Trees, none, more, count, variables, variables_all}
use Rattle.pp_algebra.specs.Rows.{Domain, Domains, Row, IsWide, AreWide, IsRow, domain_at}
use Rattle.pp_algebra.specs.Canon.{has, firsts, same_list}
use Rattle.pp_algebra.specs.Covers.{IsIn}
use Rattle.pp_algebra.specs.Least.{first, rest, least_tree, least_trees, values, both, union_of, least_row}
use Rattle.pp_algebra.specs.Joins.{AreOfWidth}
use Rattle.pp_algebra.specs.Laws.{LeastIsRow}
use Rattle.pp_algebra.proofs.Law.{least_row-IsCanonical}
use Rattle.pp_algebra.proofs.Sets.{least_in_parts, least_of_one}
use Rattle.pp_algebra.proofs.Antisym.{IsIn-either}
use Rattle.pp_algebra.proofs.Bools.{int_same}
use Rattle.pp_algebra.proofs.SetKinds.{Kind, no_member, one_member, more_members, kind, not_one}
use Rattle.pp_algebra.proofs.Member.{members}

abbrev pub common : Trees ℕ → Trees ℕ → Trees (List (Tree ℕ))
common ts us = least_trees ts (us ∷ [])

-- a set that has a member, and not one alone
wide : (s : Domain) (n : ℤ) → set.contains s n ≡ true → ((m : ℤ) → ((k : ℤ) → set.contains s k ≡ true → k ≡ m) → ⊥) → 2 ≤ set.len s
wide s n h f = go (kind s)
  where
    go : Kind s → 2 ≤ set.len s
    go (no_member g) = absurd (g n h)
    go (one_member m c g) = absurd (f m g)
    go (more_members l) = l

in_left : (d e : Domain) (n : ℤ) → set.contains d n ≡ true → set.contains (set.union d e) n ≡ true
in_left d e n h = set.contains-union int_cmp_total d e n ∙ rw h refl

in_right : (d e : Domain) (n : ℤ) → set.contains e n ≡ true → set.contains (set.union d e) n ≡ true
in_right d e n h = set.contains-union int_cmp_total d e n ∙ rw h (or-true _)

wide_left : (d e : Domain) → 2 ≤ set.len d → 2 ≤ set.len (set.union d e)
wide_left d e l = let m = members d l in wide (set.union d e) m.0 (in_left d e m.0 m.1) (λ n f. not_one d n l (λ k i. f k (in_left d e k i)))

wide_right : (d e : Domain) → 2 ≤ set.len e → 2 ≤ set.len (set.union d e)
wide_right d e l = let m = members e l in wide (set.union d e) m.0 (in_right d e m.0 m.1) (λ n f. not_one e n l (λ k i. f k (in_right d e k i)))

abbrev one : ℤ → Domain
one n = set.from_list (n ∷ [])

in_one : (n : ℤ) → set.contains (one n) n ≡ true
in_one n = set.contains-from_list int_cmp_total (n ∷ []) n ∙ rw (int_same n) refl

pub wide_two : (n m : ℤ) → (int_eq n m ≡ false) → 2 ≤ set.len (set.union (one n) (set.union (one m) set.empty))
wide_two n m e =
    let s = set.union (one n) (set.union (one m) set.empty) in
    let a : set.contains s n ≡ true = in_left (one n) (set.union (one m) set.empty) n (in_one n) in
    let b : set.contains s m ≡ true = in_right (one n) (set.union (one m) set.empty) m (in_left (one m) set.empty m (in_one m)) in
    wide s n a (λ k f. let g : n ≡ m = f n a ∙ sym (f m b) in let h : int_eq n m ≡ true = subst (λ x. int_eq n x ≡ true) g (int_same n) in absurd (cc (e, h)))

module _ (ds es : Domains ℕ) (f : (v : ℕ) → IsWide (ds v)) (g : (v : ℕ) → IsWide (es v)) where
  abbrev IsBroad : List (Tree ℕ) → Type 0
  IsBroad w = IsWide (union_of (ds ∷ es ∷ []) w)

  two_integers : (n m : ℤ) (b : Bool) → int_eq n m ≡ b → (w : List (Tree ℕ)) → IsIn w (variables (cond (b && true) (int n) (variable (int n ∷ int m ∷ [])))) → IsBroad w
  two_integers n m true e w i = absurd i
  two_integers n m false e w (inl k) = subst IsBroad k (wide_two n m e)
  two_integers n m false e w (inr k) = absurd k

  integer_left : (n : ℤ) (o : Option Domain) → IsWide o → IsWide (both (Some (one n)) (both o (Some set.empty)))
  integer_left n None h = tt
  integer_left n (Some d) h = wide_right (one n) (set.union d set.empty) (wide_left d set.empty h)

  variable_left : (o x : Option Domain) → IsWide o → IsWide (both o x)
  variable_left None x h = tt
  variable_left (Some d) None h = tt
  variable_left (Some d) (Some e) h = wide_left d e h

  one_alone : (v w : List (Tree ℕ)) → IsBroad v → IsIn w (v ∷ []) → IsBroad w
  one_alone v w h (inl e) = subst IsBroad e h
  one_alone v w h (inr e) = absurd e

  kept_or_not : (b : Bool) (x : Tree (List (Tree ℕ))) (v w : List (Tree ℕ)) → IsBroad v → (IsIn w (variables x) → IsBroad w) → IsIn w (variables (cond b x (variable v))) → IsBroad w
  kept_or_not true x v w h k i = k i
  kept_or_not false x v w h k i = one_alone v w h i

  mutual
    broad : (t u : Tree ℕ) (w : List (Tree ℕ)) → IsIn w (variables (least_tree t (u ∷ []))) → IsBroad w
    broad (int n) (int m) w i = two_integers n m (int_eq n m) refl w i
    broad (int n) (node h us) w i = one_alone (int n ∷ node h us ∷ []) w tt i
    broad (int n) (variable v) w i = one_alone (int n ∷ variable v ∷ []) w (integer_left n (es v) (g v)) i
    broad (node h ts) (int m) w i = one_alone (node h ts ∷ int m ∷ []) w tt i
    broad (node h ts) (node k us) w i = kept_or_not ((nat_eq h k && nat_eq (count ts) (count us)) && true) (node h (least_trees ts (us ∷ []))) (node h ts ∷ node k us ∷ []) w tt (broad_all ts us w) i
    broad (node h ts) (variable v) w i = one_alone (node h ts ∷ variable v ∷ []) w tt i
    broad (variable v) u w i = one_alone (variable v ∷ u ∷ []) w (variable_left (ds v) (both (values es u) (Some set.empty)) (f v)) i

    pub broad_all : (ts us : Trees ℕ) (w : List (Tree ℕ)) → IsIn w (variables_all (common ts us)) → IsBroad w
    broad_all none us w i = absurd i
    broad_all (more t ts) us w i = elim (IsIn-either w (variables (least_tree t (first us ∷ []))) (variables_all (common ts (rest us))) i) [
      | inl a ↦ broad t (first us) w a
      | inr b ↦ broad_all ts (rest us) w b
    ]

among_pushed : {V : Type 0} (seen vs : List V) (v w : V) → IsIn w (seen ++ v ∷ []) ⊎ IsIn w vs → IsIn w seen ⊎ IsIn w (v ∷ vs)
among_pushed seen vs v w (inl a) = elim (IsIn-either w seen (v ∷ []) a) [ inl x ↦ inl x | inr y ↦ elim y [ inl e ↦ inr (inl e) | inr z ↦ absurd z ] ]
among_pushed seen vs v w (inr b) = inr (inr b)

among_later : {V : Type 0} (seen vs : List V) (v w : V) → IsIn w seen ⊎ IsIn w vs → IsIn w seen ⊎ IsIn w (v ∷ vs)
among_later seen vs v w (inl a) = inl a
among_later seen vs v w (inr b) = inr (inr b)

among_firsts : {V : Type 0} (same : V → V → Bool) (seen vs : List V) (w : V) → IsIn w (firsts same seen vs) → IsIn w seen ⊎ IsIn w vs
among_firsts same seen [] w i = inl i
among_firsts same seen (v ∷ vs) w i = elim (has same seen v) as (λ b. IsIn w (cond b (firsts same seen vs) (firsts same (seen ++ v ∷ []) vs)) → IsIn w seen ⊎ IsIn w (v ∷ vs)) [
  | true ↦ λ i. among_later seen vs v w (among_firsts same seen vs w i)
  | false ↦ λ i. among_pushed seen vs v w (among_firsts same (seen ++ v ∷ []) vs w i)
] i

pub wide_at : (ds : List (Option Domain)) (v : ℕ) → AreWide ds → IsWide (domain_at ds v)
wide_at [] v w = tt
wide_at (d ∷ ds) zero w = All-head IsWide d ds w
wide_at (d ∷ ds) (suc v) w = wide_at ds v (All-tail IsWide d ds w)

all_wide : {V : Type 0} (f : V → Option Domain) (vs : List V) → ((v : V) → IsIn v vs → IsWide (f v)) → AreWide (map f vs)
all_wide f [] h = All-nil IsWide
all_wide f (v ∷ vs) h = All-cons IsWide (f v) (map f vs) (h v (inl refl)) (all_wide f vs (λ w i. h w (inr i)))

-- the domains of a join
pub unions_wide : (ds es : List (Option Domain)) (ts us : Trees ℕ) (ns : List (List (Tree ℕ))) → AreWide ds → AreWide es → ns ≡ firsts same_list [] (variables_all (common ts us)) → AreWide (map (union_of (domain_at ds ∷ domain_at es ∷ [])) ns)
unions_wide ds es ts us ns v w e =
    all_wide (union_of (domain_at ds ∷ domain_at es ∷ [])) ns (λ x i. elim (among_firsts same_list [] (variables_all (common ts us)) x (subst (IsIn x) e i)) [
      | inl a ↦ absurd a
      | inr b ↦ broad_all (domain_at ds) (domain_at es) (λ n. wide_at ds n v) (λ n. wide_at es n w) ts us x b
    ])

-- the least generalisation of two rows
two_rows : (r q : Row) → IsRow r → IsRow q → IsRow (least_row r (q ∷ []))
two_rows r q h k = record {
  canonical = least_row-IsCanonical r (q ∷ []);
  wide = unions_wide r.domains q.domains r.columns q.columns (firsts same_list [] (variables_all (common r.columns q.columns))) h.wide k.wide refl;
}

pub least_is_row : LeastIsRow
least_is_row r [] w h k = subst (λ x. IsRow x) (sym (least_of_one r h.canonical)) h
least_is_row r (q ∷ qs) w h k =
    let width : AreOfWidth (q ∷ qs) q = λ p i. w p (inr i) ∙ sym (w q (inr (inl refl))) in
    let rest : IsRow (least_row q qs) = least_is_row q qs width (k q (inl refl)) (λ p i. k p (inr i)) in
    let e : least_row (least_row r []) (least_row q qs ∷ []) ≡ least_row r (q ∷ qs) = least_in_parts r q [] qs w in
    let f : least_row r [] ≡ r = least_of_one r h.canonical in
    subst (λ x. IsRow x) (ap (λ x. least_row x (least_row q qs ∷ [])) (sym f) ∙ e) (two_rows r (least_row q qs) h rest)
