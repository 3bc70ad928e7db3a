-- Two terms walked in step: one term of their cells, and as many terms left of both.
use Rattle.std.proofs.Common.{◌≡◌, ℕ, suc, ◌+◌, ◌-◌, ◌<◌, ◌≤◌, List, [], length, take, drop, get_or, Some, Option, All, refl, ap, ◌∙◌, sym, arith, subst, append-nil}
use Rattle.std.proofs.lemmas.List.Elements.{All-drop, All-take}
use Rattle.pp_row.specs.declared.cell.Cell.{Cell}
use Rattle.pp_algebra.specs.Terms.{Tree, Trees, none, more, count}
use Rattle.pp_algebra.specs.Least.{first, rest, arguments}
use Rattle.pp_row.specs.Cells.{cells_of, arity_of, IsTerm, IsLegalCell}
use Rattle.pp_row.specs.Codes.{stack-cells_of, tree_of-cells_of}
use Rattle.pp_row.specs.Reading.{stack, all_of, tree_of, IsForest, IsOneTerm, from}
use Rattle.pp_row.proofs.Next.{IsNext, next, count_from}
use Rattle.pp_algebra.proofs.Joined.{count-join}
use Rattle.pp_row.proofs.Piece.{piece}

-- the cells of one term
reads : (o : Option (Trees ℕ)) (us : Trees ℕ) → o ≡ Some us → o ≡ Some (all_of o)
reads o us e = rw e refl

stack_one : (t : Tree ℕ) (cs : List Cell) → cs ≡ cells_of t → stack cs ≡ Some (more t none)
stack_one t cs e = ap stack (e ∙ sym (append-nil (cells_of t))) ∙ stack-cells_of t [] none refl

pub is_forest : (t : Tree ℕ) (cs : List Cell) → cs ≡ cells_of t → IsTerm t → IsForest cs
is_forest t cs e l = record { legal = subst (All IsLegalCell) (sym e) l; reads = reads (stack cs) (more t none) (stack_one t cs e) }

pub from_start : (t : Tree ℕ) (cs : List Cell) → cs ≡ cells_of t → from cs 0 ≡ more t none
from_start t cs e = ap all_of (stack_one t cs e)

-- a piece is one term
pub one_piece : (cs : List Cell) (i e : ℕ) (d : Cell) → IsForest cs → i < length cs → from cs e ≡ rest (from cs i) → i < e → e ≤ length cs → IsOneTerm (take (e - i) (drop i cs)) × (tree_of (take (e - i) (drop i cs)) ≡ first (from cs i))
one_piece cs i e d h l s k m =
    let p = piece cs i e d h l s k m in
    let t : tree_of (take (e - i) (drop i cs)) ≡ first (from cs i) = ap (λ ds. tree_of ds) p ∙ tree_of-cells_of (first (from cs i)) in
    (record { legal = All-take IsLegalCell (e - i) (drop i cs) (All-drop IsLegalCell i cs h.legal); whole = ap (λ t. cells_of t) t ∙ sym p }, t)

count_some : (ts : Trees ℕ) → ts ≡ more (first ts) (rest ts) → count ts ≡ suc (count (rest ts))
count_some ts e = ap count e

count_next : (c : Cell) (ts us : Trees ℕ) → IsNext c ts us → suc (count us) ≡ count ts + arity_of c
count_next c ts us n = omega (arith, ap count n.some, ap count n.inner, count-join (arguments (first ts)) (rest ts), n.arity)

-- the same number of terms is left of both
module _ (cs ds : List Cell) (i j : ℕ) (d : Cell) (h : IsForest cs) (k : IsForest ds) (l : i < length cs) (e : count (from cs i) ≡ count (from ds j)) where
  pub right_too : j ≤ length ds → j < length ds
  right_too m = omega (arith, count_from ds j k m, e, count_some (from cs i) (next cs i d h l).some)

  module _ (m : j < length ds) where
    pub count_cell : get_or cs i d ≡ get_or ds j d → count (from cs (i + 1)) ≡ count (from ds (j + 1))
    count_cell f = omega (arith, e, ap arity_of f, count_next (get_or cs i d) (from cs i) (from cs (i + 1)) (next cs i d h l), count_next (get_or ds j d) (from ds j) (from ds (j + 1)) (next ds j d k m))

    pub count_term : count (rest (from cs i)) ≡ count (rest (from ds j))
    count_term = omega (arith, e, count_some (from cs i) (next cs i d h l).some, count_some (from ds j) (next ds j d k m).some)

pub no_more : (ts : Trees ℕ) → count ts ≤ 0 → ts ≡ none
no_more none h = refl
no_more (more t ts) h = absurd (omega arith)

-- nothing is left of both
pub nothing_left : (cs ds : List Cell) (i j : ℕ) → IsForest cs → length cs ≤ i → i ≤ length cs → count (from cs i) ≡ count (from ds j) → (from cs i ≡ none) × (from ds j ≡ none)
nothing_left cs ds i j h k l e = let n = count_from cs i h l in (no_more (from cs i) (omega (arith, n)), no_more (from ds j) (omega (arith, n, e)))
