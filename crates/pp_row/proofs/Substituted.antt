-- The cells of a term with terms in place of its variables.
use Rattle.std.proofs.Common.{◌≡◌, ℕ, zero, suc, ◌<◌, List, [], ◌∷◌, length, get_or, refl, ap, sym, ◌∙◌, append-nil, All, subst, arith}
use Rattle.std.specs.List.{flat_map}
use Rattle.std.proofs.lemmas.List.Concat.{flat_map-append}
use Rattle.pp_row.specs.declared.cell.Cell.{Cell}
use Rattle.pp_algebra.specs.Terms.{Tree, int, node, variable, Trees, none, more, put, put_all, variables, count}
use Rattle.pp_algebra.specs.Covers.{IsIn}
use Rattle.pp_algebra.proofs.Order.{IsIn-left, IsIn-right}
use Rattle.pp_algebra.proofs.Put.{count-put_all}
use Rattle.pp_row.specs.Cells.{cells_of, cells_of_all, head_of, IsLegalCell, variables_in}
use Rattle.pp_row.specs.Reading.{tree_of, IsOneTerm}
use Rattle.pp_row.specs.Codes.{tree_of-cells_of}
use Rattle.pp_row.proofs.Renaming.{among-cells_of}
use Rattle.pp_row.specs.Cells.{variables_among}
use Rattle.pp_row.specs.Substitution.{put_cell}

module _ (s : ℕ → Tree ℕ) where
  put_head : (f k : ℕ) → put_cell s (head_of f k) ≡ head_of f k ∷ []
  put_head f zero = refl
  put_head f (suc k) = refl

  mutual
    pub cells_of-put : (t : Tree ℕ) → cells_of (put s t) ≡ flat_map (put_cell s) (cells_of t)
    cells_of-put (int n) = refl
    cells_of-put (node f ts) = rw (count-put_all s ts, cells_of_all-put ts, put_head f (count ts)) refl
    cells_of-put (variable v) = sym (append-nil (cells_of (s v)))

    cells_of_all-put : (ts : Trees ℕ) → cells_of_all (put_all s ts) ≡ flat_map (put_cell s) (cells_of_all ts)
    cells_of_all-put none = refl
    cells_of_all-put (more t ts) = rw (cells_of-put t, cells_of_all-put ts, flat_map-append (put_cell s) (cells_of t) (cells_of_all ts)) refl

  pub put_tree : (cs out : List Cell) → IsOneTerm cs → All IsLegalCell out → out ≡ flat_map (put_cell s) cs → IsOneTerm out × (tree_of out ≡ put s (tree_of cs))
  put_tree cs out h l e =
      let p : out ≡ cells_of (put s (tree_of cs)) = e ∙ ap (flat_map (put_cell s)) (sym h.whole) ∙ sym (cells_of-put (tree_of cs)) in
      let t : tree_of out ≡ put s (tree_of cs) = ap (λ ds. tree_of ds) p ∙ tree_of-cells_of (put s (tree_of cs)) in
      (record { legal = l; whole = ap (λ u. cells_of u) t ∙ sym p }, t)

pub among_at : (cs : List Cell) (k : ℕ) (d : Cell) (v : ℕ) → k < length cs → IsIn v (variables_in (get_or cs k d)) → IsIn v (variables_among cs)
among_at [] k d v l i = absurd (omega (arith, l))
among_at (c ∷ cs) zero d v l i = IsIn-left v (variables_in c) (variables_among cs) i
among_at (c ∷ cs) (suc k) d v l i = IsIn-right v (variables_in c) (variables_among cs) (among_at cs k d v (omega (arith, l)) i)

pub among_term : (cs : List Cell) (k : ℕ) (d : Cell) (v : ℕ) → IsOneTerm cs → k < length cs → IsIn v (variables_in (get_or cs k d)) → IsIn v (variables (tree_of cs))
among_term cs k d v h l i = subst (IsIn v) (ap (λ x. variables_among x) (sym h.whole) ∙ among-cells_of (tree_of cs)) (among_at cs k d v l i)
