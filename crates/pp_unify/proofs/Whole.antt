-- The cells of one term as a list of one term.
use Rattle.std.proofs.Common.{◌≡◌, ℕ, Bool, true, false, List, [], ◌∷◌, inl, inr, ap, subst, append-nil}
use Rattle.pp_algebra.specs.Terms.{Tree, more, none, variables, variables_all}
use Rattle.pp_algebra.specs.Rows.{Row}
use Rattle.pp_algebra.specs.Covers.{IsIn}
use Rattle.pp_algebra.specs.Least.{first}
use Rattle.pp_algebra.specs.Solve.{equation}
use Rattle.pp_algebra.specs.Numbered.{counted_from}
use Rattle.pp_row.specs.declared.cell.Cell.{Cell}
use Rattle.pp_row.specs.Cells.{cells_of, IsTerm}
use Rattle.pp_row.specs.Reading.{IsForest, forest}
use Rattle.pp_heap.specs.Values.{term_at}
use Rattle.pp_unify.specs.States.{IsOver, in_place, IsSolvedBy}
use Rattle.pp_unify.specs.Forests.{counted_all, AreOver, pairs, AreDecided}
use Rattle.pp_row.proofs.InStep.{is_forest, from_start}

module _ (t : Tree ℕ) (cs : List Cell) where
  pub whole_forest : cs ≡ cells_of t → IsTerm t → IsForest cs
  whole_forest e h = is_forest t cs e h

  pub whole_one : cs ≡ cells_of t → forest cs ≡ more t none
  whole_one e = from_start t cs e

  pub whole_term : (n : ℕ) → cs ≡ cells_of t → counted_from n (term_at cs 0) ≡ counted_from n t
  whole_term n e = ap (λ ts. counted_from n (first ts)) (whole_one e)

pub whole_over : (r : Row) (t : Tree ℕ) (cs : List Cell) (n : ℕ) → cs ≡ cells_of t → IsOver r (counted_from n t) → AreOver r (counted_all n (forest cs))
whole_over r t cs n e o v i = o v (subst (IsIn v) (append-nil (variables (counted_from n t))) (subst (λ ts. IsIn v (variables_all (counted_all n ts))) (whole_one t cs e) i))

-- the verdict on one equation
one_decided : (r q : Row) (a b : Tree ℕ) (o : Bool) → AreDecided r (equation a b ∷ []) o q → IsSolvedBy r (equation (in_place r a) (in_place r b)) o q
one_decided r q a b true h = subst (λ p. IsSolvedBy r (equation (in_place r a) (in_place r b)) true p) h.2 h.1
one_decided r q a b false (inl h) = h
one_decided r q a b false (inr h) = absurd h.2

pub whole_decided : (r q : Row) (t u : Tree ℕ) (cs ds : List Cell) (n m : ℕ) (o : Bool) → cs ≡ cells_of t → ds ≡ cells_of u → AreDecided r (pairs n (forest cs) m (forest ds)) o q → IsSolvedBy r (equation (in_place r (counted_from n t)) (in_place r (counted_from m u))) o q
whole_decided r q t u cs ds n m o e f h = one_decided r q (counted_from n t) (counted_from m u) o (subst (λ ts. AreDecided r (pairs n ts m (more u none)) o q) (whole_one t cs e) (subst (λ us. AreDecided r (pairs n (forest cs) m us) o q) (whole_one u ds f) h))
