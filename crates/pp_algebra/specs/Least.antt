-- The least generalisation of a list of rows: what all of them have in common.
use Rattle.std.specs.Prelude.{ℕ, ℤ, pos, Bool, true, false, cond, ◌&&◌, nat_eq, List, [], ◌∷◌, map, Option, Some, None}
use Rattle.std.specs.Ordering.{int_eq}
use Rattle.std.specs.FinSet as set
use Rattle.pp_algebra.specs.Terms.{Tree, int, node, variable, Trees, none, more, count}
use Rattle.pp_algebra.specs.Rows.{Domain, Domains, Pattern, Row, pattern_of}
use Rattle.pp_algebra.specs.Canon.{canon, same_list}

abbrev pub first : {V : Type 0} → Trees V → Tree V
first none = int (pos 0)
first (more t ts) = t

abbrev pub rest : {V : Type 0} → Trees V → Trees V
rest none = none
rest (more t ts) = ts

abbrev pub is_int : {V : Type 0} → ℤ → Tree V → Bool
is_int n (int m) = int_eq n m
is_int n (node f ts) = false
is_int n (variable v) = false

abbrev pub all_int : {V : Type 0} → ℤ → List (Tree V) → Bool
all_int n [] = true
all_int n (t ∷ ts) = is_int n t && all_int n ts

abbrev pub is_node : {V : Type 0} → ℕ → ℕ → Tree V → Bool
is_node f k (int m) = false
is_node f k (node g ts) = nat_eq f g && nat_eq k (count ts)
is_node f k (variable v) = false

abbrev pub all_node : {V : Type 0} → ℕ → ℕ → List (Tree V) → Bool
all_node f k [] = true
all_node f k (t ∷ ts) = is_node f k t && all_node f k ts

abbrev pub arguments : {V : Type 0} → Tree V → Trees V
arguments (int m) = none
arguments (node f ts) = ts
arguments (variable v) = none

-- where the tuple of terms has one functor it is kept, and where it has one integer; elsewhere stands the variable that is named by the tuple
abbrev mutual
  pub least_tree : {V : Type 0} → Tree V → List (Tree V) → Tree (List (Tree V))
  least_tree (int n) others = cond (all_int n others) (int n) (variable (int n ∷ others))
  least_tree (node f ts) others = cond (all_node f (count ts) others) (node f (least_trees ts (map arguments others))) (variable (node f ts ∷ others))
  least_tree (variable v) others = variable (variable v ∷ others)

  pub least_trees : {V : Type 0} → Trees V → List (Trees V) → Trees (List (Tree V))
  least_trees none others = none
  least_trees (more t ts) others = more (least_tree t (map first others)) (least_trees ts (map rest others))

-- the integers that a term may be: None where it may be something else
abbrev pub values : {V : Type 0} → Domains V → Tree V → Option Domain
values ds (int n) = Some (set.from_list (n ∷ []))
values ds (node f ts) = None
values ds (variable v) = ds v

abbrev pub both : Option Domain → Option Domain → Option Domain
both None e = None
both (Some d) None = None
both (Some d) (Some e) = Some (set.union d e)

-- the union over the tuple, None where some member may be no integer
abbrev pub union_of : {V : Type 0} → List (Domains V) → List (Tree V) → Option Domain
union_of [] ts = Some set.empty
union_of (ds ∷ dss) [] = None
union_of (ds ∷ dss) (t ∷ ts) = both (values ds t) (union_of dss ts)

abbrev pub least : {V : Type 0} → Pattern V → List (Pattern V) → Pattern (List (Tree V))
least r rs = record {
  columns = least_trees r.columns (map (λ q. q.columns) rs);
  domains = union_of (map (λ q. q.domains) (r ∷ rs));
}

-- the least generalisation of the rows r ∷ rs
abbrev pub least_row : Row → List Row → Row
least_row r rs = canon same_list (least (pattern_of r) (map pattern_of rs))

-- of any list; the empty list has none
abbrev pub least_list : List Row → Option Row
least_list [] = None
least_list (r ∷ rs) = Some (least_row r rs)
