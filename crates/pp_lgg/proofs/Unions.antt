-- The integers that a variable for two terms may be.
use Rattle.std.proofs.Common.{◌≡◌, ℕ, ℤ, zero, suc, List, [], ◌∷◌, get_or, Option, Some, None, refl, ap, sym, ◌∙◌, arith}
use Rattle.std.specs.Prelude.{◌||◌, ◌<ℤ◌, MatchOption, IfOk, Result, Ok, Err}
use Rattle.std.proofs.lemmas.Int.{ints}
use Rattle.std.specs.FinSet as set
use Rattle.std.specs.Ordering.{int_cmp}
use Rattle.std.specs.Cmp.{int_cmp_total}
use Rattle.std.proofs.Math.Bool.{or-false}
use Rattle.pp_algebra.specs.Terms.{Tree, int, node, variable, count}
use Rattle.pp_algebra.specs.Rows.{Domain, Domains}
use Rattle.pp_algebra.specs.Least.{values, both, union_of}
use Rattle.pp_row.specs.declared.cell.Cell.{Cell}
use Rattle.pp_domain.specs.Sets.{set_of}
use Rattle.pp_domain.proofs.Ascending.{one_value_alone}
use Rattle.pp_row.specs.Columns.{set_by}
use Rattle.pp_row.specs.Cells.{head_of, cells_of}
use Rattle.pp_row.specs.Reading.{tree_of, IsOneTerm}
use Rattle.pp_row.proofs.Next.{cell_of}
use Rattle.pp_lgg.specs.declared.pair.Pair.{Pair}
use Rattle.pp_lgg.specs.Pairs.{IsPair, name}
use Rattle.pp_lgg.specs.Values.{values_at}

by_cell : (ds : Domains ℕ) (t : Tree ℕ) → values_at ds (cell_of t) ≡ values ds t
by_cell ds (int n) = refl
by_cell ds (node f ts) = go (count ts)
  where
    go : (k : ℕ) → values_at ds (head_of f k) ≡ None
    go zero = refl
    go (suc k) = refl
by_cell ds (variable v) = refl

first_of_cells : (t : Tree ℕ) (d : Cell) → get_or (cells_of t) 0 d ≡ cell_of t
first_of_cells (int n) d = refl
first_of_cells (node f ts) d = refl
first_of_cells (variable v) d = refl

values_first : (ds : Domains ℕ) (cs : List Cell) (d : Cell) → IsOneTerm cs → values_at ds (get_or cs 0 d) ≡ values ds (tree_of cs)
values_first ds cs d h = ap (λ xs. values_at ds (get_or xs 0 d)) (sym h.whole) ∙ ap (values_at ds) (first_of_cells (tree_of cs) d) ∙ by_cell ds (tree_of cs)

union_empty : (d : Domain) → set.union d set.empty ≡ d
union_empty d = set.same_set int_cmp_total set.int_cmp-IsAntisymmetric (set.union d set.empty) d (λ q. set.contains-union int_cmp_total d set.empty q ∙ ap (λ b. set.contains d q || b) (set.contains-empty int_cmp q) ∙ or-false (set.contains d q))

both_empty : (d : Option Domain) → both d (Some set.empty) ≡ d
both_empty None = refl
both_empty (Some d) = ap Some (union_empty d)

-- the first cells tell the values of both
pub of_both : (ds es : Domains ℕ) (p : Pair) (d : Cell) → IsPair p → both (values_at ds (get_or p.left.now 0 d)) (values_at es (get_or p.right.now 0 d)) ≡ union_of (ds ∷ es ∷ []) (name p)
of_both ds es p d h =
    ap (λ x. both x (values_at es (get_or p.right.now 0 d))) (values_first ds p.left.now d h.left)
    ∙ ap (both (values ds (tree_of p.left.now))) (values_first es p.right.now d h.right ∙ sym (both_empty (values es (tree_of p.right.now))))

ranged : (o : Option (List (ℤ × ℤ))) (n : ℤ) → MatchOption o (n <ℤ n) (λ d. d ≡ (n, n) ∷ []) → set_by o ≡ Some (set.from_list (n ∷ []))
ranged None n h = absurd (omega (arith, ints))
ranged (Some d) n h = ap Some (ap (λ ps. set_of ps) h ∙ one_value_alone n)

pub one_integer : {E : Type 0} (r : Result (Option (List (ℤ × ℤ))) E) (m n : ℤ) → m ≡ n → IfOk r (λ o. MatchOption o (m <ℤ m) (λ d. d ≡ (m, m) ∷ [])) → IfOk r (λ o. set_by o ≡ Some (set.from_list (n ∷ [])))
one_integer (Ok o) m n e h = ranged o m h ∙ ap (λ x. Some (set.from_list (x ∷ []))) e
one_integer (Err f) m n e h = tt
