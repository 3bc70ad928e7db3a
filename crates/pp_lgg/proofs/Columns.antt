-- The join of two rows, column by column.
use Rattle.std.proofs.Common.{◌≡◌, ℕ, ℤ, List, [], ◌∷◌, ◌++◌, length, map, Option, refl, ap, sym, ◌∙◌, subst, append-nil, ◌+◌, ◌<◌, ◌≤◌, take, get_or, arith}
use Rattle.std.proofs.lemmas.List.{take_more, take_all, length-take-le}
use Rattle.pp_algebra.specs.Terms.{Tree, variable, none, more, put, put_all, variables, variables_all, join}
use Rattle.pp_algebra.specs.Rows.{Row, domain_at, pattern_of, IsCanonical}
use Rattle.pp_algebra.specs.Canon.{has, firsts, place, canon, same_list}
use Rattle.pp_algebra.specs.Least.{least_tree, union_of, least_row}
use Rattle.pp_algebra.proofs.Antisym.{put_all-agree, covers_antisymmetric}
use Rattle.pp_algebra.proofs.CanonLemmas.{same_list-IsSame, nat_eq-IsSame, has-all, canon-IsCanonical, canon-covers, covers-canon}
use Rattle.pp_algebra.proofs.Law.{least_row-IsCanonical}
use Rattle.std.specs.Prelude.{nat_eq}
use Rattle.pp_row.specs.Columns.{trees_of, sets_of, row_by, pattern_by}
use Rattle.pp_row.proofs.Numbering.{firsts-append, place_stays}
use Rattle.pp_lgg.specs.Pairs.{placed}
use Rattle.pp_lgg.proofs.Common.{common-join}
use Rattle.pp_algebra.proofs.WideLeast.{common}
use Rattle.pp_algebra.proofs.Joined.{variables_all-join, put_all-join}
use Rattle.pp_row.proofs.ColumnLists.{count-trees_of}

trees-push : (ts : List (Tree ℕ)) (t : Tree ℕ) → trees_of (ts ++ t ∷ []) ≡ join (trees_of ts) (more t none)
trees-push [] t = refl
trees-push (u ∷ ts) t = ap (more u) (trees-push ts t)

-- the names and the columns so far
pub record Joined (ts us : List (Tree ℕ)) (ns : List (List (Tree ℕ))) (out : List (Tree ℕ)) : Type 0 where
  pub names : ns ≡ firsts same_list [] (variables_all (common (trees_of ts) (trees_of us)))
  pub columns : trees_of out ≡ put_all (placed ns) (common (trees_of ts) (trees_of us))

common-push : (ts us : List (Tree ℕ)) (t u : Tree ℕ) → length ts ≡ length us → common (trees_of (ts ++ t ∷ [])) (trees_of (us ++ u ∷ [])) ≡ join (common (trees_of ts) (trees_of us)) (more (least_tree t (u ∷ [])) none)
common-push ts us t u e = rw (trees-push ts t, trees-push us u) (common-join (trees_of ts) (more t none) (trees_of us) (more u none) (count-trees_of ts ∙ e ∙ sym (count-trees_of us)))

pub no_columns : Joined [] [] [] []
no_columns = record { names = refl; columns = refl }

-- those before keep their names
pub one_column : (ts us out : List (Tree ℕ)) (ns ms : List (List (Tree ℕ))) (t u z : Tree ℕ) → length ts ≡ length us → Joined ts us ns out → ms ≡ firsts same_list ns (variables (least_tree t (u ∷ []))) → z ≡ put (placed ms) (least_tree t (u ∷ [])) → Joined (ts ++ t ∷ []) (us ++ u ∷ []) ms (out ++ z ∷ [])
one_column ts us out ns ms t u z l j e f =
    let l' = least_tree t (u ∷ []) in
    let old = common (trees_of ts) (trees_of us) in
    let p = common-push ts us t u l in
    let stay : put_all (placed ms) old ≡ put_all (placed ns) old =
    put_all-agree (placed ms) (placed ns) old (λ v i. ap variable (ap (λ xs. place same_list xs v) e ∙ place_stays same_list ns (variables l') v (ap (λ xs. has same_list xs v) j.names ∙ has-all same_list same_list-IsSame [] (variables_all old) v i))) in
    record {
      names =
          e
          ∙ ap (λ xs. firsts same_list xs (variables l')) j.names
          ∙ sym (firsts-append same_list [] (variables_all old) (variables l'))
          ∙ ap (firsts same_list []) (ap (λ vs. variables_all old ++ vs) (sym (append-nil (variables l'))) ∙ sym (variables_all-join old (more l' none)) ∙ ap variables_all (sym p));
      columns =
          trees-push out z
          ∙ ap (λ x. join x (more z none)) (j.columns ∙ sym stay)
          ∙ ap (λ x. join (put_all (placed ms) old) (more x none)) f
          ∙ sym (put_all-join (placed ms) old (more l' none))
          ∙ ap (put_all (placed ms)) (sym p);
    }

-- the next column of both
pub next_column : (ts us out : List (Tree ℕ)) (k : ℕ) (ns ms : List (List (Tree ℕ))) (t u z : Tree ℕ) → length ts ≡ length us → k < length ts → t ≡ get_or ts k t → u ≡ get_or us k u → Joined (take k ts) (take k us) ns out → ms ≡ firsts same_list ns (variables (least_tree t (u ∷ []))) → z ≡ put (placed ms) (least_tree t (u ∷ [])) → Joined (take (k + 1) ts) (take (k + 1) us) ms (out ++ z ∷ [])
next_column ts us out k ns ms t u z l h x y j e f =
    let m : k < length us = omega (arith, l, h) in
    let a : take (k + 1) ts ≡ take k ts ++ t ∷ [] = take_more ts k t h ∙ ap (λ w. take k ts ++ w ∷ []) (sym x) in
    let b : take (k + 1) us ≡ take k us ++ u ∷ [] = take_more us k u m ∙ ap (λ w. take k us ++ w ∷ []) (sym y) in
    let n : length (take k ts) ≡ length (take k us) = length-take-le k ts (omega (arith, h)) ∙ sym (length-take-le k us (omega (arith, m))) in
    rw (a, b) (one_column (take k ts) (take k us) out ns ms t u z n j e f)

pub all_columns : (ts us out : List (Tree ℕ)) (k : ℕ) (ns : List (List (Tree ℕ))) → length ts ≡ length us → length ts ≤ k → Joined (take k ts) (take k us) ns out → Joined ts us ns out
all_columns ts us out k ns l h j = rw (take_all k ts h, take_all k us (omega (arith, l, h))) at j

-- a canonical row is numbered already
canon_again : (r : Row) → IsCanonical r → canon nat_eq (pattern_of r) ≡ r
canon_again r c = covers_antisymmetric (canon nat_eq (pattern_of r)) r (canon-IsCanonical nat_eq nat_eq-IsSame (pattern_of r)) c (canon-covers nat_eq nat_eq-IsSame (pattern_of r)) (covers-canon nat_eq nat_eq-IsSame (pattern_of r))

module _ (a b : Row) (ts us out : List (Tree ℕ)) (ns : List (List (Tree ℕ))) (ds es fs : List (Option (List (ℤ × ℤ)))) (x : trees_of ts ≡ a.columns) (y : trees_of us ≡ b.columns) (v : sets_of ds ≡ a.domains) (w : sets_of es ≡ b.domains) (j : Joined ts us ns out) (d : sets_of fs ≡ map (union_of (domain_at (sets_of ds) ∷ domain_at (sets_of es) ∷ [])) ns) where
  pub names_of_rows : ns ≡ firsts same_list [] (variables_all (common a.columns b.columns))
  names_of_rows = subst (λ z. ns ≡ firsts same_list [] (variables_all (common z b.columns))) x (subst (λ z. ns ≡ firsts same_list [] (variables_all (common (trees_of ts) z))) y j.names)

  least_now : row_by out fs ≡ least_row a (b ∷ [])
  least_now =
      let e : trees_of out ≡ put_all (placed (firsts same_list [] (variables_all (common a.columns b.columns)))) (common a.columns b.columns) =
      j.columns
      ∙ ap (λ z. put_all (placed ns) (common z (trees_of us))) x
      ∙ ap (λ z. put_all (placed ns) (common a.columns z)) y
      ∙ ap (λ z. put_all (placed z) (common a.columns b.columns)) names_of_rows in
      let f : sets_of fs ≡ map (union_of (domain_at a.domains ∷ domain_at b.domains ∷ [])) (firsts same_list [] (variables_all (common a.columns b.columns))) =
      d
      ∙ ap (λ z. map (union_of (domain_at z ∷ domain_at (sets_of es) ∷ [])) ns) v
      ∙ ap (λ z. map (union_of (domain_at a.domains ∷ domain_at z ∷ [])) ns) w
      ∙ ap (map (union_of (domain_at a.domains ∷ domain_at b.domains ∷ []))) names_of_rows in
      rw (e, f) refl

  pub least_again : canon nat_eq (pattern_by out fs) ≡ least_row a (b ∷ [])
  least_again =
      ap (λ r. canon nat_eq (pattern_of r)) least_now
      ∙ canon_again (least_row a (b ∷ [])) (least_row-IsCanonical a (b ∷ []))
