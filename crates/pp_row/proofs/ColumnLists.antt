-- Columns and domains as lists.
use Rattle.std.proofs.Common.{◌≡◌, ℕ, zero, suc, ◌+◌, ℤ, List, [], ◌∷◌, ◌++◌, length, map, Option, refl, ap, sym, ◌∙◌, arith, append_assoc, append-nil, inr, subst}
use Rattle.std.proofs.Math.ListN.{length-map}
use Rattle.pp_algebra.specs.Terms.{Tree, variable, Trees, none, more, count, put, put_all, variables, variables_all}
use Rattle.pp_algebra.specs.Rows.{IsNumbered, AreWide, IsRow}
use Rattle.pp_algebra.specs.Numbered.{call, variables_from}
use Rattle.pp_row.specs.Columns.{trees_of, list_of, set_by, sets_of, row_by}
use Rattle.pp_algebra.proofs.Numbered.{from_numbered}

pub list_of-trees_of : (ts : List (Tree ℕ)) → list_of (trees_of ts) ≡ ts
list_of-trees_of [] = refl
list_of-trees_of (t ∷ ts) = ap (λ us. t ∷ us) (list_of-trees_of ts)

pub same_trees_of : (ts us : List (Tree ℕ)) → trees_of ts ≡ trees_of us → ts ≡ us
same_trees_of ts us e = sym (list_of-trees_of ts) ∙ ap (λ ws. list_of ws) e ∙ list_of-trees_of us

pub count-trees_of : (ts : List (Tree ℕ)) → count (trees_of ts) ≡ length ts
count-trees_of [] = refl
count-trees_of (t ∷ ts) = ap suc (count-trees_of ts)

-- rows of one width have as many columns
pub same_length : (ts us : List (Tree ℕ)) (xs ys : Trees ℕ) → trees_of ts ≡ xs → trees_of us ≡ ys → count xs ≡ count ys → length ts ≡ length us
same_length ts us xs ys e f g = sym (count-trees_of ts) ∙ ap count e ∙ g ∙ ap count (sym f) ∙ count-trees_of us

-- rows of as many columns are of one width
pub same_width : (ts us : List (Tree ℕ)) (xs ys : Trees ℕ) → trees_of ts ≡ xs → trees_of us ≡ ys → length ts ≡ length us → count xs ≡ count ys
same_width ts us xs ys e f g = ap count (sym e) ∙ count-trees_of ts ∙ g ∙ sym (count-trees_of us) ∙ ap count f

pub put-trees_of : (s : ℕ → Tree ℕ) (ts : List (Tree ℕ)) → put_all s (trees_of ts) ≡ trees_of (map (put s) ts)
put-trees_of s [] = refl
put-trees_of s (t ∷ ts) = ap (more (put s t)) (put-trees_of s ts)

pub variables-push : (ts : List (Tree ℕ)) (t : Tree ℕ) → variables_all (trees_of (ts ++ t ∷ [])) ≡ variables_all (trees_of ts) ++ variables t
variables-push [] t = append-nil (variables t)
variables-push (u ∷ ts) t = ap (λ vs. variables u ++ vs) (variables-push ts t) ∙ sym (append_assoc (variables u) (variables_all (trees_of ts)) (variables t))

-- the variables from a number on, as a list
pub from_push : (ts : List (Tree ℕ)) (first n k : ℕ) → k ≡ first + n → trees_of ts ≡ variables_from first n → trees_of (ts ++ variable k ∷ []) ≡ variables_from first (suc n)
from_push [] first zero k h e = ap (λ v. more (variable v) none) (omega (arith, h))
from_push [] first (suc n) k h e = absurd (cc)
from_push (t ∷ ts) first zero k h e = absurd (cc)
from_push (t ∷ ts) first (suc n) k h e =
    let f : t ≡ variable first = cc in
    rw (f, from_push ts (suc first) n k (omega (arith, h)) (cc)) refl

-- the call of a row, as it is kept
module _ (ds : List (Option (List (ℤ × ℤ)))) (us : List (Tree ℕ)) (e : trees_of us ≡ variables_from 0 (length ds)) where
  pub call_is_row : AreWide (sets_of ds) → IsRow (row_by us ds)
  call_is_row w = record {
    canonical = subst (λ ts. IsNumbered 0 (variables_all ts) (length (sets_of ds))) (sym e) (from_numbered 0 (length ds) (length (sets_of ds)) (omega (arith, length-map ds set_by)));
    wide = w;
  }

  pub called : (ts : List (Tree ℕ)) → row_by us ds ≡ call (row_by ts ds)
  called ts = rw (e, length-map ds set_by) refl

pub same_rows : (ts us : List (Tree ℕ)) (ds es : List (Option (List (ℤ × ℤ)))) → row_by ts ds ≡ row_by us es → (ts ≡ us) × (sets_of ds ≡ sets_of es)
same_rows ts us ds es e = (same_trees_of ts us (ap (λ r. r.columns) e), ap (λ r. r.domains) e)

pub rows_from : (ts us : List (Tree ℕ)) (ds es : List (Option (List (ℤ × ℤ)))) → ts ≡ us → sets_of ds ≡ sets_of es → row_by ts ds ≡ row_by us es
rows_from ts us ds es e f = rw (e, f) refl
