-- The cells of a term with all bindings in place.
use Rattle.std.proofs.Common.{◌≡◌, ℕ, zero, suc, ◌≤◌, take, Option, Some, None, List, ◌∷◌, length, append-nil, refl, ap, ◌∙◌}
use Rattle.std.specs.Prelude.{IfOk, MatchOption}
use Rattle.std.specs.Option.{ok_or}
use Rattle.std.specs.List.{flat_map}
use Rattle.std.proofs.lemmas.List.{take_all}
use Rattle.std.proofs.lemmas.List.Concat.{flat_map-append}
use Rattle.pp_row.specs.declared.cell.Cell.{Cell}
use Rattle.pp_algebra.specs.Terms.{Tree, int, node, variable, Trees, none, more, count, put, put_all}
use Rattle.pp_algebra.proofs.Put.{count-put_all}
use Rattle.pp_row.specs.Cells.{cells_of, cells_of_all, head_of, IsTerm}
use Rattle.pp_row.proofs.Piece.{same_cells}
use Rattle.pp_unify.specs.Tops.{cells_under}

module _ (s : ℕ → Tree ℕ) where
  head_stays : (f k : ℕ) (cs : List Cell) → flat_map (cells_under s) (head_of f k ∷ cs) ≡ head_of f k ∷ flat_map (cells_under s) cs
  head_stays f zero cs = refl
  head_stays f (suc k) cs = refl

  mutual
    pub cells_put : (t : Tree ℕ) → flat_map (cells_under s) (cells_of t) ≡ cells_of (put s t)
    cells_put (int n) = refl
    cells_put (node f ts) = head_stays f (count ts) (cells_of_all ts) ∙ rw (cells_put_all ts, count-put_all s ts) refl
    cells_put (variable v) = append-nil (cells_of (s v))

    cells_put_all : (ts : Trees ℕ) → flat_map (cells_under s) (cells_of_all ts) ≡ cells_of_all (put_all s ts)
    cells_put_all none = refl
    cells_put_all (more t ts) = flat_map-append (cells_under s) (cells_of t) (cells_of_all ts) ∙ rw (cells_put t, cells_put_all ts) refl

  -- all cells are resolved
  pub resolved_cells : (t : Tree ℕ) (cs out : List Cell) (i : ℕ) → cs ≡ cells_of t → length cs ≤ i → out ≡ flat_map (cells_under s) (take i cs) → out ≡ cells_of (put s t)
  resolved_cells t cs out i e l f = f ∙ ap (flat_map (cells_under s)) (take_all i cs l ∙ e) ∙ cells_put t

-- the term that the cells write, where they write one
pub written : {E : Type 0} (u : Tree ℕ) (cs : List Cell) (o : Option (Tree ℕ)) (x : E) → cs ≡ cells_of u → MatchOption o ((t : Tree ℕ) → IsTerm t → cells_of t ≡ cs → ⊥) (λ t. IsTerm t × (cells_of t ≡ cs)) → IfOk (ok_or o x) (λ t. t ≡ u)
written u cs None x e h = tt
written u cs (Some t) x e h = same_cells t u (h.1 ∙ e)
