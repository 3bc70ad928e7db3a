-- The steps of the walk over the cells of two terms.
use Rattle.std.proofs.Common.{◌≡◌, ℕ, ◌+◌, ◌-◌, ◌<◌, ◌≤◌, List, [], ◌∷◌, ◌++◌, length, get_or, Some, None, Option, All, refl, ap, ◌∙◌, sym, arith, subst}
use Rattle.std.specs.Prelude.{MatchOption, IsSome}
use Rattle.pp_row.specs.declared.cell.Cell.{Cell}
use Rattle.pp_row.specs.declared.cell.Cell.TheVariants.{Var}
use Rattle.pp_algebra.specs.Terms.{Tree, variable, Trees, none, more, put, variables}
use Rattle.pp_algebra.specs.Canon.{firsts, place, same_list}
use Rattle.pp_algebra.specs.Least.{first, rest, least_tree}
use Rattle.pp_row.specs.Cells.{cells_of, IsTerm, IsLegalCell}
use Rattle.pp_row.specs.Reading.{IsForest, from}
use Rattle.pp_row.proofs.Next.{IsNext, next, count_from}
use Rattle.pp_row.proofs.Piece.{same_cells}
use Rattle.pp_row.proofs.InStep.{from_start, no_more}
use Rattle.pp_lgg.specs.Pairs.{IsFixed, placed}
use Rattle.pp_lgg.proofs.Common.{Agrees, agrees, apart}
use Rattle.pp_lgg.proofs.Walked.{Walked, starts, step_agree, step_apart, ends}
use Rattle.pp_algebra.proofs.WideLeast.{common}

agree_next : (c d : Cell) (ts us rs qs : Trees ℕ) → IsNext c ts rs → IsNext d us qs → c ≡ d → IsFixed c → Agrees c (common ts us) (common rs qs)
agree_next c d none us rs qs n m e f = let a = n.some in absurd (cc)
agree_next c d (more t ts) none rs qs n m e f = let a = m.some in absurd (cc)
agree_next c d (more t ts) (more u us) rs qs n m e f = rw (n.inner, m.inner, ← n.cell) (agrees t u ts us (n.cell ∙ e ∙ sym m.cell) (subst IsFixed (sym n.cell) f))

apart_next : (c d : Cell) (ts us rs qs : Trees ℕ) → IsNext c ts rs → IsNext d us qs → (c ≡ d → IsFixed c → ⊥) → common ts us ≡ more (variable (first ts ∷ first us ∷ [])) (common (rest ts) (rest us))
apart_next c d none us rs qs n m f = let a = n.some in absurd (cc)
apart_next c d (more t ts) none rs qs n m f = let a = m.some in absurd (cc)
apart_next c d (more t ts) (more u us) rs qs n m f = ap (λ x. more x (common ts us)) (apart t u (λ e x. f (sym n.cell ∙ e ∙ m.cell) (subst IsFixed n.cell x)))

module _ (start ns : List (List (Tree ℕ))) (whole : Trees (List (Tree ℕ))) (out cs ds : List Cell) (i j : ℕ) (d : Cell) (h : IsForest cs) (k : IsForest ds) (l : i < length cs) (m : j < length ds) (w : Walked start whole (common (from cs i) (from ds j)) ns out) where
  pub past_cell : get_or cs i d ≡ get_or ds j d → IsFixed (get_or cs i d) → Walked start whole (common (from cs (i + 1)) (from ds (j + 1))) ns (out ++ get_or cs i d ∷ [])
  past_cell e f = step_agree start ns whole _ _ (get_or cs i d) out (agree_next (get_or cs i d) (get_or ds j d) (from cs i) (from ds j) (from cs (i + 1)) (from ds (j + 1)) (next cs i d h l) (next ds j d k m) e f) w

  pub past_pair : (ms : List (List (Tree ℕ))) (v : List (Tree ℕ)) (p q n : ℕ) → (get_or cs i d ≡ get_or ds j d → IsFixed (get_or cs i d) → ⊥) → v ≡ first (from cs i) ∷ first (from ds j) ∷ [] → from cs p ≡ rest (from cs i) → from ds q ≡ rest (from ds j) → ms ≡ firsts same_list ns (v ∷ []) → n ≡ place same_list ms v → Walked start whole (common (from cs p) (from ds q)) ms (out ++ Var n ∷ [])
  past_pair ms v p q n f g x y e o =
      let a : common (from cs i) (from ds j) ≡ more (variable v) (common (from cs p) (from ds q)) =
      apart_next (get_or cs i d) (get_or ds j d) (from cs i) (from ds j) (from cs (i + 1)) (from ds (j + 1)) (next cs i d h l) (next ds j d k m) f
      ∙ ap (λ z. more (variable z) (common (rest (from cs i)) (rest (from ds j)))) (sym g)
      ∙ ap (λ z. more (variable v) (common z (rest (from ds j)))) (sym x)
      ∙ ap (λ z. more (variable v) (common (from cs p) z)) (sym y) in
      step_apart start ns ms whole (common (from cs p) (from ds q)) v n out e o (subst (λ z. Walked start whole z ns out) a w)

pub at_start : (start : List (List (Tree ℕ))) (t u : Tree ℕ) (cs ds : List Cell) → cs ≡ cells_of t → ds ≡ cells_of u → Walked start (more (least_tree t (u ∷ [])) none) (common (from cs 0) (from ds 0)) start []
at_start start t u cs ds e f = rw (from_start t cs e, from_start u ds f) (starts start (more (least_tree t (u ∷ [])) none))

pub at_end : (start ns : List (List (Tree ℕ))) (t u : Tree ℕ) (cs out : List Cell) (rs : Trees ℕ) (i : ℕ) → IsForest cs → length cs ≤ i → i ≤ length cs → Walked start (more (least_tree t (u ∷ [])) none) (common (from cs i) rs) ns out → (ns ≡ firsts same_list start (variables (least_tree t (u ∷ [])))) × (cells_of (put (placed ns) (least_tree t (u ∷ []))) ≡ out)
at_end start ns t u cs out rs i h k l w = ends start ns (least_tree t (u ∷ [])) out (subst (λ z. Walked start (more (least_tree t (u ∷ [])) none) (common z rs) ns out) (no_more (from cs i) (omega (arith, count_from cs i h l))) w)

-- the term of cells that are known to be one
module _ (t : Tree ℕ) (cs : List Cell) (e : cells_of t ≡ cs) where
  pub is_made : (o : Option (Tree ℕ)) → All IsLegalCell cs → MatchOption o ((u : Tree ℕ) → IsTerm u → cells_of u ≡ cs → ⊥) (λ u. IsTerm u × (cells_of u ≡ cs)) → IsSome o
  is_made None l h = absurd (h t (subst (All IsLegalCell) (sym e) l) e)
  is_made (Some u) l h = refl

  pub made : (o : Option (Tree ℕ)) (u : Tree ℕ) → MatchOption o ((u : Tree ℕ) → IsTerm u → cells_of u ≡ cs → ⊥) (λ u. IsTerm u × (cells_of u ≡ cs)) → o ≡ Some u → u ≡ t
  made None u h f = absurd (cc)
  made (Some v) u h f = let g : v ≡ u = cc in sym g ∙ same_cells v t (h.1 ∙ sym e)
