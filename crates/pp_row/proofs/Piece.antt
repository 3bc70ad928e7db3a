-- The cells of one of several terms.
use Rattle.std.proofs.Common.{◌≡◌, ℕ, ◌-◌, ◌<◌, ◌≤◌, List, ◌++◌, length, take, drop, refl, ap, ◌∙◌, sym, arith, length-append, length-drop}
use Rattle.pp_row.specs.declared.cell.Cell.{Cell}
use Rattle.pp_algebra.specs.Terms.{Tree, Trees, none, more}
use Rattle.pp_algebra.specs.Least.{first, rest}
use Rattle.pp_row.specs.Cells.{cells_of, cells_of_all}
use Rattle.pp_row.specs.Reading.{tree_of, from, IsForest}
use Rattle.pp_row.specs.Codes.{tree_of-cells_of}
use Rattle.std.proofs.Math.Seq.{take-append_seam}
use Rattle.pp_row.proofs.OneTerm.{stack-is}
use Rattle.pp_row.proofs.Next.{forest_from, next}

pub cells_from : (cs : List Cell) (i : ℕ) → IsForest cs → cells_of_all (from cs i) ≡ drop i cs
cells_from cs i h = let f = forest_from cs i h in stack-is (drop i cs) (from cs i) f.legal f.reads

pub cells_some : (ts : Trees ℕ) → ts ≡ more (first ts) (rest ts) → cells_of_all ts ≡ cells_of (first ts) ++ cells_of_all (rest ts)
cells_some none e = absurd (cc)
cells_some (more t ts) e = refl

take_front : (n : ℕ) (xs ys zs : List Cell) → xs ≡ ys ++ zs → n ≡ length ys → take n xs ≡ ys
take_front n xs ys zs e f = rw (e, f) (take-append_seam ys zs)

pub piece : (cs : List Cell) (i e : ℕ) (d : Cell) → IsForest cs → i < length cs → from cs e ≡ rest (from cs i) → i < e → e ≤ length cs → take (e - i) (drop i cs) ≡ cells_of (first (from cs i))
piece cs i e d h l s k m =
    let n = next cs i d h l in
    let f : drop i cs ≡ cells_of (first (from cs i)) ++ drop e cs = sym (cells_from cs i h) ∙ cells_some (from cs i) n.some ∙ ap (λ x. cells_of (first (from cs i)) ++ x) (ap cells_of_all (sym s) ∙ cells_from cs e h) in
    take_front (e - i) (drop i cs) (cells_of (first (from cs i))) (drop e cs) f
    (omega (arith, ap length f, length-drop i cs, length-drop e cs, length-append (cells_of (first (from cs i))) (drop e cs)))

pub same_cells : (t u : Tree ℕ) → cells_of t ≡ cells_of u → t ≡ u
same_cells t u e = sym (tree_of-cells_of t) ∙ ap (λ cs. tree_of cs) e ∙ tree_of-cells_of u
