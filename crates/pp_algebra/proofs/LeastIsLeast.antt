-- What covers every row covers the least generalisation.
use Rattle.std.proofs.Common.{◌≡◌, ℕ, ℤ, true, List, [], ◌∷◌, map, refl, ap, sym}
use Rattle.pp_algebra.specs.Terms.{Tree, int, node, variable, Trees, none, more, put, put_all, count}
use Rattle.pp_algebra.specs.Least.{first, rest, all_int, all_node, arguments, least_tree, least_trees}
use Rattle.pp_algebra.proofs.Put.{count-put_all}
use Rattle.pp_algebra.proofs.Bools.{int_same, nat_same, both_true}

module _ {V W : Type 0} where
  all_int_same : (n : ℤ) (ss : List (V → Tree W)) → all_int n (map (λ s. put s (int n)) ss) ≡ true
  all_int_same n [] = refl
  all_int_same n (s ∷ ss) = both_true _ _ (int_same n) (all_int_same n ss)

  all_node_same : (f k : ℕ) (ts : Trees V) (ss : List (V → Tree W)) → count ts ≡ k → all_node f k (map (λ s. put s (node f ts)) ss) ≡ true
  all_node_same f k ts [] e = refl
  all_node_same f k ts (s ∷ ss) e =
      both_true _ _ (both_true _ _ (nat_same f) (rw (count-put_all s ts, e) (nat_same k))) (all_node_same f k ts ss e)

  arguments-put : (f : ℕ) (ts : Trees V) (ss : List (V → Tree W)) → map arguments (map (λ s. put s (node f ts)) ss) ≡ map (λ s. put_all s ts) ss
  arguments-put f ts [] = refl
  arguments-put f ts (s ∷ ss) = ap (λ l. put_all s ts ∷ l) (arguments-put f ts ss)

  first-put : (t : Tree V) (ts : Trees V) (ss : List (V → Tree W)) → map first (map (λ s. put_all s (more t ts)) ss) ≡ map (λ s. put s t) ss
  first-put t ts [] = refl
  first-put t ts (s ∷ ss) = ap (λ l. put s t ∷ l) (first-put t ts ss)

  rest-put : (t : Tree V) (ts : Trees V) (ss : List (V → Tree W)) → map rest (map (λ s. put_all s (more t ts)) ss) ≡ map (λ s. put_all s ts) ss
  rest-put t ts [] = refl
  rest-put t ts (s ∷ ss) = ap (λ l. put_all s ts ∷ l) (rest-put t ts ss)

  -- where a variable goes in the least generalisation
  abbrev pub together : (V → Tree W) → List (V → Tree W) → V → Tree (List (Tree W))
  together s ss v = least_tree (s v) (map (λ r. r v) ss)

  mutual
    pub least_tree-put : (s : V → Tree W) (ss : List (V → Tree W)) (t : Tree V) → least_tree (put s t) (map (λ r. put r t) ss) ≡ put (together s ss) t
    least_tree-put s ss (int n) = rw (all_int_same n ss) refl
    least_tree-put s ss (node f ts) = rw (all_node_same f (count (put_all s ts)) ts ss (sym (count-put_all s ts)), arguments-put f ts ss) (ap (node f) (least_trees-put s ss ts))
    least_tree-put s ss (variable v) = refl

    pub least_trees-put : (s : V → Tree W) (ss : List (V → Tree W)) (ts : Trees V) → least_trees (put_all s ts) (map (λ r. put_all r ts) ss) ≡ put_all (together s ss) ts
    least_trees-put s ss none = refl
    least_trees-put s ss (more t ts) = rw (first-put t ts ss, rest-put t ts ss, least_tree-put s ss t, least_trees-put s ss ts) refl
