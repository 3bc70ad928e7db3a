-- The arguments of a term, cut from its cells one after another.
use Rattle.std.proofs.Common.{◌≡◌, ℕ, ◌+◌, ◌-◌, ◌<◌, ◌≤◌, List, [], ◌∷◌, ◌++◌, length, take, drop, refl, ap, sym, ◌∙◌, subst, arith, All}
use Rattle.std.proofs.lemmas.List.{drop_all}
use Rattle.std.proofs.lemmas.List.Elements.{All-take, All-drop}
use Rattle.pp_algebra.specs.Terms.{Tree, Trees, none, more, join}
use Rattle.pp_algebra.specs.Least.{first, rest, arguments}
use Rattle.pp_row.specs.declared.cell.Cell.{Cell}
use Rattle.pp_row.specs.declared.cell.Cell.TheVariants.{Atom}
use Rattle.pp_row.specs.Cells.{IsLegalCell}
use Rattle.pp_row.specs.Reading.{stack, all_of, tree_of, from, IsOneTerm}
use Rattle.pp_row.specs.Codes.{tree_of-cells_of}
use Rattle.pp_row.specs.Columns.{trees_of}
use Rattle.pp_row.proofs.OneTerm.{one_of, reads_one, one_is_forest}
use Rattle.pp_row.proofs.Next.{next}
use Rattle.pp_row.proofs.Piece.{piece}
use Rattle.pp_algebra.proofs.Joined.{join-none}

join-push : (ts : List (Tree ℕ)) (t : Tree ℕ) (us : Trees ℕ) → join (trees_of (ts ++ t ∷ [])) us ≡ join (trees_of ts) (more t us)
join-push [] t us = refl
join-push (x ∷ ts) t us = ap (more x) (join-push ts t us)

pub some_cells : (cs : List Cell) → IsOneTerm cs → 0 < length cs
some_cells [] h = absurd (let e = reads_one [] h in cc)
some_cells (c ∷ cs) h = omega arith

-- behind the first cell stand the arguments
pub arguments_from : (cs : List Cell) → IsOneTerm cs → from cs 1 ≡ arguments (tree_of cs)
arguments_from cs h =
    let n = next cs 0 (Atom 0) (one_is_forest cs h) (some_cells cs h) in
    let whole : from cs 0 ≡ more (tree_of cs) none = ap all_of (reads_one cs h) in
    let z : 1 ≡ 0 + 1 = omega arith in
    let up : from cs 1 ≡ from cs (0 + 1) = ap (from cs) z in
    up ∙ n.inner ∙ ap (λ ts. join (arguments (first ts)) (rest ts)) whole ∙ join-none (arguments (tree_of cs))

-- the next argument
pub record IsArgument (cs : List Cell) (i e : ℕ) : Type 0 where
  pub one : IsOneTerm (take (e - i) (drop i cs))
  pub ahead : from cs i ≡ more (tree_of (take (e - i) (drop i cs))) (from cs e)

pub argument : (cs : List Cell) (i e : ℕ) → IsOneTerm cs → i < length cs → from cs e ≡ rest (from cs i) → i < e → e ≤ length cs → IsArgument cs i e
argument cs i e h l s k m =
    let f = one_is_forest cs h in
    let p = piece cs i e (Atom 0) f l s k m in
    let n = next cs i (Atom 0) f l in
    record {
      one = one_of (first (from cs i)) (take (e - i) (drop i cs)) (subst (All IsLegalCell) p (All-take IsLegalCell (e - i) (drop i cs) (All-drop IsLegalCell i cs h.legal))) (sym p);
      ahead = n.some ∙ ap (λ t. more t (rest (from cs i))) (sym (ap tree_of p ∙ tree_of-cells_of (first (from cs i)))) ∙ ap (more (tree_of (take (e - i) (drop i cs)))) (sym s);
    }

pub argument_pushed : (cs : List Cell) (i e : ℕ) (ts new : List (Tree ℕ)) (t : Tree ℕ) (all : Trees ℕ) → IsArgument cs i e → t ≡ tree_of (take (e - i) (drop i cs)) → new ≡ ts ++ t ∷ [] → join (trees_of ts) (from cs i) ≡ all → join (trees_of new) (from cs e) ≡ all
argument_pushed cs i e ts new t all a f g h =
    ap (λ us. join (trees_of us) (from cs e)) g ∙ join-push ts t (from cs e) ∙ ap (λ u. join (trees_of ts) (more u (from cs e))) f ∙ ap (join (trees_of ts)) (sym a.ahead) ∙ h

pub arguments_whole : (cs : List Cell) (i : ℕ) (ts : List (Tree ℕ)) (all : Trees ℕ) → length cs ≤ i → join (trees_of ts) (from cs i) ≡ all → trees_of ts ≡ all
arguments_whole cs i ts all l h = sym (join-none (trees_of ts)) ∙ ap (λ xs. join (trees_of ts) (all_of (stack xs))) (sym (drop_all i cs l)) ∙ h
