-- The first tree of two lists: what their least generalisation has there.
use Rattle.std.proofs.Common.{◌≡◌, ℕ, zero, suc, true, false, Bool, List, [], ◌∷◌, ◌++◌, refl, ap, ◌∙◌, sym, arith, append_assoc}
use Rattle.std.specs.Prelude.{cond, ◌&&◌, nat_eq}
use Rattle.std.specs.Ordering.{int_eq}
use Rattle.pp_row.specs.declared.cell.Cell.{Cell}
use Rattle.pp_row.specs.declared.cell.Cell.TheVariants.{Int}
use Rattle.pp_algebra.specs.Terms.{Tree, int, node, variable, Trees, none, more, count, put, put_all, variables, variables_all, join}
use Rattle.pp_algebra.specs.Least.{rest, arguments, least_tree, least_trees}
use Rattle.pp_algebra.proofs.Put.{count-put_all}
use Rattle.pp_algebra.proofs.Bools.{int_same, int_is, nat_same, nat_is}
use Rattle.pp_row.specs.Cells.{head_of, cells_of, cells_of_all}
use Rattle.pp_row.proofs.Next.{cell_of, same_head, int_head, var_head}
use Rattle.pp_lgg.specs.Pairs.{IsFixed}
use Rattle.pp_algebra.proofs.WideLeast.{common}
use Rattle.pp_algebra.proofs.Joined.{variables_all-join}

count-common : (ts us : Trees ℕ) → count (common ts us) ≡ count ts
count-common none us = refl
count-common (more t ts) us = ap suc (count-common ts (rest us))

pub common-join : (xs ts ys us : Trees ℕ) → count xs ≡ count ys → common (join xs ts) (join ys us) ≡ join (common xs ys) (common ts us)
common-join none ts none us e = refl
common-join none ts (more y ys) us e = absurd (omega arith)
common-join (more x xs) ts none us e = absurd (omega arith)
common-join (more x xs) ts (more y ys) us e = ap (more (least_tree x (y ∷ []))) (common-join xs ts ys us (omega arith))

module _ {V : Type 0} where
  cells-join : (s : V → Tree ℕ) (xs ys : Trees V) → cells_of_all (put_all s (join xs ys)) ≡ cells_of_all (put_all s xs) ++ cells_of_all (put_all s ys)
  cells-join s none ys = refl
  cells-join s (more x xs) ys = ap (λ cs. cells_of (put s x) ++ cs) (cells-join s xs ys) ∙ sym (append_assoc (cells_of (put s x)) (cells_of_all (put_all s xs)) (cells_of_all (put_all s ys)))

fixed_head : (f k : ℕ) → IsFixed (head_of f k)
fixed_head f zero = tt
fixed_head f (suc k) = tt

-- the cell stands in front, and the arguments follow
pub record Agrees (c : Cell) (whole ahead : Trees (List (Tree ℕ))) : Type 0 where
  pub variables : variables_all whole ≡ variables_all ahead
  pub cells : (s : List (Tree ℕ) → Tree ℕ) → cells_of_all (put_all s whole) ≡ c ∷ cells_of_all (put_all s ahead)

node_agrees : (f : ℕ) (ts us xs ys : Trees ℕ) → count xs ≡ count ys → Agrees (head_of f (count xs)) (more (node f (common xs ys)) (common ts us)) (common (join xs ts) (join ys us))
node_agrees f ts us xs ys e = record {
  variables = sym (variables_all-join (common xs ys) (common ts us)) ∙ ap variables_all (sym (common-join xs ts ys us e));
  cells = λ s.
      ap (λ k. head_of f k ∷ (cells_of_all (put_all s (common xs ys)) ++ cells_of_all (put_all s (common ts us)))) (count-put_all s (common xs ys) ∙ count-common xs ys)
      ∙ ap (λ cs. head_of f (count xs) ∷ cs) (sym (cells-join s (common xs ys) (common ts us)) ∙ ap (λ zs. cells_of_all (put_all s zs)) (sym (common-join xs ts ys us e)));
}

pub agrees : (t u : Tree ℕ) (ts us : Trees ℕ) → cell_of t ≡ cell_of u → IsFixed (cell_of t) → Agrees (cell_of t) (common (more t ts) (more u us)) (common (join (arguments t) ts) (join (arguments u) us))
agrees (int n) (int m) ts us e f =
    let i : n ≡ m = cc in
    rw (← i, int_same n) (record { variables = refl; cells = λ s. refl })
agrees (int n) (node g ys) ts us e f = absurd (int_head n g (count ys) e)
agrees (int n) (variable v) ts us e f = absurd (cc)
agrees (node g xs) (int m) ts us e f = absurd (int_head m g (count xs) (sym e))
agrees (node g xs) (node h ys) ts us e f =
    let i = same_head g h (count xs) (count ys) e in
    rw (← i.0, ← i.1, nat_same g, nat_same (count xs)) (node_agrees g ts us xs ys i.1)
agrees (node g xs) (variable v) ts us e f = absurd (var_head v g (count xs) (sym e))
agrees (variable v) u ts us e f = absurd f

apart_int : (b : Bool) (t : Tree (List (Tree ℕ))) (v : List (Tree ℕ)) → (b ≡ true → ⊥) → cond (b && true) t (variable v) ≡ variable v
apart_int true t v h = absurd (h refl)
apart_int false t v h = refl

apart_node : (x y : Bool) (t : Tree (List (Tree ℕ))) (v : List (Tree ℕ)) → (x ≡ true → y ≡ true → ⊥) → cond ((x && y) && true) t (variable v) ≡ variable v
apart_node true true t v h = absurd (h refl refl)
apart_node true false t v h = refl
apart_node false y t v h = refl

pub apart : (t u : Tree ℕ) → (cell_of t ≡ cell_of u → IsFixed (cell_of t) → ⊥) → least_tree t (u ∷ []) ≡ variable (t ∷ u ∷ [])
apart (int n) (int m) h = apart_int (int_eq n m) (int n) (int n ∷ int m ∷ []) (λ e. h (ap Int (int_is n m e)) tt)
apart (int n) (node g us) h = refl
apart (int n) (variable v) h = refl
apart (node g ts) (int m) h = refl
apart (node g ts) (node k us) h =
    apart_node (nat_eq g k) (nat_eq (count ts) (count us)) (node g (least_trees ts (us ∷ []))) (node g ts ∷ node k us ∷ [])
    (λ e f. h (ap (λ x. head_of x (count ts)) (nat_is g k e) ∙ ap (head_of k) (nat_is (count ts) (count us) f)) (fixed_head g (count ts)))
apart (node g ts) (variable v) h = refl
apart (variable v) u h = refl
