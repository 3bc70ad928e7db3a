-- Terms whose variables are there.
use Rattle.std.proofs.Common.{◌≡◌, ℕ, ◌+◌, ◌<◌, List, [], ◌∷◌, All, ap, sym, ◌∙◌, subst, inl, inr, arith}
use Rattle.std.proofs.lemmas.List.Elements.{All-head, All-tail}
use Rattle.pp_algebra.specs.Terms.{Tree, variable, variables, variables_all, count}
use Rattle.pp_algebra.specs.Rows.{Row}
use Rattle.pp_algebra.specs.Covers.{IsIn}
use Rattle.pp_algebra.proofs.Antisym.{IsIn-either}
use Rattle.pp_row.specs.declared.cell.Cell.{Cell}
use Rattle.pp_row.specs.declared.cell.Cell.TheVariants.{Int, Atom, Compound, Var}
use Rattle.pp_row.specs.Cells.{cells_of, variables_in}
use Rattle.pp_row.proofs.Renaming.{among-cells_of, among-cells_of_all}
use Rattle.pp_row.specs.Cells.{variables_among}
use Rattle.pp_unify.specs.States.{IsOver}
use Rattle.pp_algebra.specs.Numbered.{counted_from}
use Rattle.pp_unify.specs.Tops.{IsThere}
use Rattle.pp_row.specs.Reading.{IsForest, forest}
use Rattle.pp_row.proofs.Piece.{cells_from}
use Rattle.pp_unify.specs.Forests.{counted_all, AreOver}
use Rattle.pp_unify.proofs.Among.{comes_from, comes_from_all}
use Rattle.pp_unify.proofs.Grown.{counted-zero}

cell_there : (first n : ℕ) (c : Cell) (v : ℕ) → IsThere first n c → IsIn v (variables_in c) → first + v < n
cell_there first n (Int k) v h i = absurd i
cell_there first n (Atom a) v h i = absurd i
cell_there first n (Compound f k) v h i = absurd i
cell_there first n (Var w) v h (inl e) = omega (arith, h, e)
cell_there first n (Var w) v h (inr i) = absurd i

all_among : (first n : ℕ) (cs : List Cell) (v : ℕ) → All (IsThere first n) cs → IsIn v (variables_among cs) → first + v < n
all_among first n [] v h i = absurd i
all_among first n (c ∷ cs) v h i = elim (IsIn-either v (variables_in c) (variables_among cs) i) [
  | inl j ↦ cell_there first n c v (All-head (IsThere first n) c cs h) j
  | inr j ↦ all_among first n cs v (All-tail (IsThere first n) c cs h) j
]

pub over_cells : (r : Row) (t : Tree ℕ) (cs : List Cell) (first n : ℕ) → cs ≡ cells_of t → n ≡ count r.columns → All (IsThere first n) cs → IsOver r (counted_from first t)
over_cells r t cs first n e k h w i =
    let f = comes_from (λ v. variable (first + v)) t w i in
    let l = all_among first n (cells_of t) f.0 (subst (All (IsThere first n)) e h) (subst (IsIn f.0) (sym (among-cells_of t)) f.1) in
    is w f.0 l f.2
  where
    is : (w v : ℕ) → first + v < n → IsIn w (variables (variable (first + v))) → w < count r.columns
    is w v l (inl q) = omega (arith, l, q, k)
    is w v l (inr q) = absurd q

pub over_zero : (r : Row) (t : Tree ℕ) → IsOver r (counted_from 0 t) → IsOver r t
over_zero r t h = subst (IsOver r) (counted-zero t) h

-- the same of terms one behind the other
pub forest_there : (first n : ℕ) (cs : List Cell) → IsForest cs → All (IsThere first n) cs → (v : ℕ) → IsIn v (variables_all (forest cs)) → first + v < n
forest_there first n cs f h v i = all_among first n cs v h (subst (IsIn v) (sym (ap variables_among (sym (cells_from cs 0 f)) ∙ among-cells_of_all (forest cs))) i)

pub forest_over : (r : Row) (cs : List Cell) (first n : ℕ) → IsForest cs → n ≡ count r.columns → All (IsThere first n) cs → AreOver r (counted_all first (forest cs))
forest_over r cs first n f k h w i =
    let c = comes_from_all (λ v. variable (first + v)) (forest cs) w i in
    let l = forest_there first n cs f h c.0 c.1 in
    is w c.0 l c.2
  where
    is : (w v : ℕ) → first + v < n → IsIn w (variables (variable (first + v))) → w < count r.columns
    is w v l (inl q) = omega (arith, l, q, k)
    is w v l (inr q) = absurd q
