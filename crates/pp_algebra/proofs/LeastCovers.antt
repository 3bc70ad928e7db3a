-- The least generalisation covers each row.
use Rattle.std.proofs.Common.{◌≡◌, ℕ, ℤ, zero, suc, ◌<◌, pos, Bool, true, false, List, [], ◌∷◌, map, length, get_or, Option, Some, None, refl, ap, sym, ◌∙◌, subst, arith}
use Rattle.std.specs.Prelude.{cond, nat_eq}
use Rattle.std.specs.FinSet as set
use Rattle.std.specs.Cmp.{int_cmp_total}
use Rattle.std.specs.Ordering.{int_cmp}
use Rattle.std.proofs.Math.Bool.{or-true}
use Rattle.std.proofs.Math.ListN.{get_or-map, length-map}
use Rattle.pp_algebra.specs.Terms.{Tree, int, node, variable, Trees, none, more, put, put_all, count}
use Rattle.pp_algebra.specs.Rows.{Domain, Domains, Pattern}
use Rattle.pp_algebra.specs.Covers.{IsWithin, MayGo, Covers}
use Rattle.pp_algebra.specs.Least.{first, rest, is_int, all_int, is_node, all_node, arguments, least_tree, least_trees, values, both, union_of, least}
use Rattle.pp_algebra.proofs.Bools.{int_same, int_is, nat_is, left_true, right_true}

single : (n : ℤ) → set.contains (set.from_list {R = int_cmp} (n ∷ [])) n ≡ true
single n = set.contains-from_list int_cmp_total (n ∷ []) n ∙ rw (int_same n) refl

in_left : (d e : Domain) (n : ℤ) → set.contains d n ≡ true → set.contains (set.union d e) n ≡ true
in_left d e n h = set.contains-union int_cmp_total d e n ∙ rw h refl

in_right : (d e : Domain) (n : ℤ) → set.contains e n ≡ true → set.contains (set.union d e) n ≡ true
in_right d e n h = set.contains-union int_cmp_total d e n ∙ rw h (or-true _)

wider : (d e : Domain) (f : Option Domain) → IsWithin e f → IsWithin (set.union d e) f
wider d e None h = h
wider d e (Some f) h = λ n k. in_right d e n (h n k)

module _ {V : Type 0} where
  abbrev pub pick : ℕ → List (Tree V) → Tree V
  pick i ts = get_or ts i (int (pos 0))

  put-cond : {U : Type 0} (s : U → Tree V) (b : Bool) (x y : Tree U) (z : Tree V) → (b ≡ true → put s x ≡ z) → put s y ≡ z → put s (cond b x y) ≡ z
  put-cond s true x y z h k = h refl
  put-cond s false x y z h k = k

  mutual
    pub front : (t : Tree V) (os : List (Tree V)) → put (pick 0) (least_tree t os) ≡ t
    front (int n) os = put-cond (pick 0) (all_int n os) (int n) (variable (int n ∷ os)) (int n) (λ _. refl) refl
    front (node f ts) os = put-cond (pick 0) (all_node f (count ts) os) (node f (least_trees ts (map arguments os))) (variable (node f ts ∷ os)) (node f ts) (λ _. ap (node f) (front_all ts (map arguments os))) refl
    front (variable v) os = refl

    pub front_all : (ts : Trees V) (os : List (Trees V)) → put_all (pick 0) (least_trees ts os) ≡ ts
    front_all none os = refl
    front_all (more t ts) os = rw (front t (map first os), front_all ts (map rest os)) refl

  is_int-is : (n : ℤ) (t : Tree V) → is_int n t ≡ true → int n ≡ t
  is_int-is n (int m) h = ap int (int_is n m h)
  is_int-is n (node f ts) h = absurd (cc)
  is_int-is n (variable v) h = absurd (cc)

  all_int-at : (n : ℤ) (os : List (Tree V)) (i : ℕ) → i < length os → all_int n os ≡ true → int n ≡ pick i os
  all_int-at n [] i h k = absurd (omega arith)
  all_int-at n (t ∷ os) zero h k = is_int-is n t (left_true _ _ k)
  all_int-at n (t ∷ os) (suc i) h k = all_int-at n os i (omega arith) (right_true _ _ k)

  all_node-at : (f k : ℕ) (os : List (Tree V)) (i : ℕ) → i < length os → all_node f k os ≡ true → is_node f k (pick i os) ≡ true
  all_node-at f k [] i h e = absurd (omega arith)
  all_node-at f k (t ∷ os) zero h e = left_true _ _ e
  all_node-at f k (t ∷ os) (suc i) h e = all_node-at f k os i (omega arith) (right_true _ _ e)

  is_node-is : (f k : ℕ) (t : Tree V) → is_node f k t ≡ true → (node f (arguments t) ≡ t) × (count (arguments t) ≡ k)
  is_node-is f k (int m) h = absurd (cc)
  is_node-is f k (node g ts) h = (ap (λ x. node x ts) (nat_is f g (left_true _ _ h)), sym (nat_is k (count ts) (right_true (nat_eq f g) _ h)))
  is_node-is f k (variable v) h = absurd (cc)

  is_within : (os : List (Trees V)) (i k : ℕ) → count (get_or os i none) ≡ suc k → i < length os
  is_within [] i k h = absurd (omega arith)
  is_within (o ∷ os) zero k h = omega arith
  is_within (o ∷ os) (suc i) k h = omega (arith, is_within os i k h)

  no_trees : (ts : Trees V) → count ts ≡ 0 → none ≡ ts
  no_trees none h = refl
  no_trees (more t ts) h = absurd (omega arith)

  some_trees : (ts : Trees V) (k : ℕ) → count ts ≡ suc k → (more (first ts) (rest ts) ≡ ts) × (count (rest ts) ≡ k)
  some_trees none k h = absurd (omega arith)
  some_trees (more t ts) k h = (refl, omega arith)

  mutual
    pub later : (t : Tree V) (os : List (Tree V)) (i : ℕ) → i < length os → put (pick (suc i)) (least_tree t os) ≡ pick i os
    later (int n) os i h = put-cond (pick (suc i)) (all_int n os) (int n) (variable (int n ∷ os)) (pick i os) (all_int-at n os i h) refl
    later (node f ts) os i h =
        put-cond (pick (suc i)) (all_node f (count ts) os) (node f (least_trees ts (map arguments os))) (variable (node f ts ∷ os)) (pick i os)
        (λ e.
        let is = is_node-is f (count ts) (pick i os) (all_node-at f (count ts) os i h e) in
        let at = get_or-map arguments os i (int (pos 0)) in
        ap (node f) (later_all ts (map arguments os) i (ap count at ∙ is.1) ∙ at) ∙ is.0)
        refl
    later (variable v) os i h = refl

    pub later_all : (ts : Trees V) (os : List (Trees V)) (i : ℕ) → count (get_or os i none) ≡ count ts → put_all (pick (suc i)) (least_trees ts os) ≡ get_or os i none
    later_all none os i h = no_trees _ h
    later_all (more t ts) os i h =
        let at = some_trees (get_or os i none) (count ts) h in
        let in' : i < length (map first os) = simp length-map (is_within os i (count ts) h) in
        rw (later t (map first os) i in', get_or-map first os i none, later_all ts (map rest os) i (ap count (get_or-map rest os i none) ∙ at.1), get_or-map rest os i none) at.0

  goes_wider : (ds : Domains V) (x u : Option Domain) (t : Tree V) → MayGo ds u t → MayGo ds (both x u) t
  goes_wider ds None u t h = tt
  goes_wider ds (Some d) None t h = tt
  goes_wider ds (Some d) (Some e) (int n) h = in_right d e n h
  goes_wider ds (Some d) (Some e) (node f ts) h = h
  goes_wider ds (Some d) (Some e) (variable v) h = wider d e (ds v) h

  goes_own : (ds : Domains V) (v : V) (d u : Option Domain) → ds v ≡ d → MayGo ds (both d u) (variable v)
  goes_own ds v None u h = tt
  goes_own ds v (Some d) None h = tt
  goes_own ds v (Some d) (Some e) h = rw h (λ n k. in_left d e n k)

  goes_first : (ds : Domains V) (u : Option Domain) (t : Tree V) → MayGo ds (both (values ds t) u) t
  goes_first ds None (int n) = tt
  goes_first ds (Some e) (int n) = in_left (set.from_list (n ∷ [])) e n (single n)
  goes_first ds u (node f ts) = tt
  goes_first ds u (variable v) = goes_own ds v (ds v) u refl

  pub goes_at : (dss : List (Domains V)) (ts : List (Tree V)) (i : ℕ) → i < length dss → MayGo (get_or dss i (λ _. None)) (union_of dss ts) (pick i ts)
  goes_at [] ts i h = absurd (omega arith)
  goes_at (ds ∷ dss) [] i h = tt
  goes_at (ds ∷ dss) (t ∷ ts) zero h = goes_first ds (union_of dss ts) t
  goes_at (ds ∷ dss) (t ∷ ts) (suc i) h = goes_wider (get_or dss i (λ _. None)) (values ds t) (union_of dss ts) (pick i ts) (goes_at dss ts i (omega arith))

  -- a pattern to stand where there is none
  abbrev pub nothing : Pattern V
  nothing = record { columns = none; domains = λ _. None }

  pub least_covers_first : (r : Pattern V) (rs : List (Pattern V)) → Covers (least r rs) r
  least_covers_first r rs = record {
    by = pick 0;
    columns = front_all r.columns (map (λ q. q.columns) rs);
    domains = λ ts _. goes_at (map (λ q. q.domains) (r ∷ rs)) ts 0 (omega arith);
  }

  pub least_covers_other : (r : Pattern V) (rs : List (Pattern V)) (i : ℕ) → i < length rs → count (get_or rs i nothing).columns ≡ count r.columns → Covers (least r rs) (get_or rs i nothing)
  least_covers_other r rs i h e =
      let at = get_or-map (λ q. q.columns) rs i nothing in
      record {
        by = pick (suc i);
        columns = later_all r.columns (map (λ q. q.columns) rs) i (ap count at ∙ e) ∙ at;
        domains = λ ts _. subst (λ ds. MayGo ds (union_of (map (λ q. q.domains) (r ∷ rs)) ts) (pick (suc i) ts)) (get_or-map (λ q. q.domains) rs i nothing) (goes_at (map (λ q. q.domains) (r ∷ rs)) ts (suc i) (simp length-map (omega arith)));
      }
