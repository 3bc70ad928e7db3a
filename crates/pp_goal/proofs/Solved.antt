-- Items of one goal that were solved on the bindings.
use Rattle.std.proofs.Common.{◌≡◌, ℕ, ℤ, ◌+◌, ◌<◌, Bool, List, [], ◌++◌, ◌-◌, length, take, drop, refl, ap, sym, ◌∙◌, subst, inl, inr, arith}
use Rattle.std.specs.FinSet as set
use Rattle.std.proofs.lemmas.List.{take_rest}
use Rattle.pp_algebra.specs.Terms.{Tree, int, variable, Trees, none, more, variables, variables_all, count}
use Rattle.pp_algebra.specs.Rows.{Domain, Row}
use Rattle.pp_algebra.specs.Covers.{IsIn}
use Rattle.pp_algebra.specs.Least.{first, rest}
use Rattle.pp_algebra.specs.Numbered.{column, counted_from}
use Rattle.pp_algebra.specs.Solve.{equation, membership}
use Rattle.pp_algebra.proofs.Antisym.{IsIn-either}
use Rattle.pp_algebra.proofs.Order.{IsIn-left, IsIn-right}
use Rattle.pp_algebra.proofs.Put.{count-put_all}
use Rattle.pp_row.specs.declared.cell.Cell.{Cell}
use Rattle.pp_row.specs.Reading.{forest, from}
use Rattle.pp_sld.specs.Selection.{both_sides, first_in, at_place}
use Rattle.pp_unify.specs.States.{in_place, IsSolvedBy}
use Rattle.pp_unify.specs.Laws.{OneHasNone}
use Rattle.pp_unify.specs.Forests.{counted_all, AreOver, pairs, AreDecided}
use Rattle.pp_unify.proofs.Emptied.{empty_has_none}
use Rattle.pp_goal.proofs.Acting.{one_decided, at_place-one}
use Rattle.pp_algebra.proofs.Numbered.{column-put}

-- ===== a value

pub bind_decided : (r : Row) (n : ℕ) (ts : Trees ℕ) (t : Tree ℕ) (i : ℕ) (z y : ℤ) (b : Bool) (q : Row) → i < count ts → t ≡ column ts i → y ≡ z → IsSolvedBy r (equation (in_place r (counted_from n t)) (int y)) b q → AreDecided r (at_place i z (counted_all n ts)) b q
bind_decided r n ts t i z y b q l e f h =
    let s : ℕ → Tree ℕ = λ v. variable (n + v) in
    let one = at_place-one i z (counted_all n ts) (omega (arith, l, count-put_all s ts)) in
    let c : column (counted_all n ts) i ≡ counted_from n t = column-put s ts i l ∙ ap (counted_from n) (sym e) in
    subst (λ js. AreDecided r js b q) (sym one)
    (one_decided r (equation (column (counted_all n ts) i) (int z)) b q (subst (λ x. IsSolvedBy r (equation (in_place r x) (int z)) b q) (sym c) (subst (λ x. IsSolvedBy r (equation (in_place r (counted_from n t)) (int x)) b q) f h)))

-- ===== a membership

pub narrow_decided : (r : Row) (n : ℕ) (ts : Trees ℕ) (d : Domain) (b : Bool) (q : Row) → 0 < count ts → IsSolvedBy r (membership (in_place r (counted_from n (first ts))) d) b q → AreDecided r (first_in d (counted_all n ts)) b q
narrow_decided r n none d b q l h = absurd (omega (arith, l))
narrow_decided r n (more t ts) d b q l h = one_decided r (membership (counted_from n t) d) b q h

pub empty_decided : (r : Row) (ts : Trees ℕ) → 0 < count ts → OneHasNone r (first_in set.empty ts)
empty_decided r none l = absurd (omega (arith, l))
empty_decided r (more t ts) l = inl (empty_has_none r (in_place r t))

-- ===== two arguments

pub right_cells : (cs : List Cell) (n : ℕ) → from cs (0 + n) ≡ rest (from cs 0) → forest (take (length cs - n) (drop n cs)) ≡ rest (forest cs)
right_cells cs n e = ap forest (take_rest cs n) ∙ (let z : n ≡ 0 + n = omega arith in ap (from cs) z) ∙ e

equal_items : (n : ℕ) (ts us ws : Trees ℕ) → count ts ≡ 2 → us ≡ more (first ts) none → ws ≡ rest ts → pairs n us n ws ≡ both_sides (counted_all n ts)
equal_items n none us ws c e f = absurd (omega (arith, c))
equal_items n (more t none) us ws c e f = absurd (omega (arith, c))
equal_items n (more t (more u none)) us ws c e f = rw (e, f) refl
equal_items n (more t (more u (more w ts))) us ws c e f = absurd (omega (arith, c))

pub equal_decided : (r : Row) (n : ℕ) (ts us ws : Trees ℕ) (b : Bool) (q : Row) → count ts ≡ 2 → us ≡ more (first ts) none → ws ≡ rest ts → AreDecided r (pairs n us n ws) b q → AreDecided r (both_sides (counted_all n ts)) b q
equal_decided r n ts us ws b q c e f h = subst (λ js. AreDecided r js b q) (equal_items n ts us ws c e f) h

pub same_width : (ts us ws : Trees ℕ) → count ts ≡ 2 → us ≡ more (first ts) none → ws ≡ rest ts → count ws ≡ count us
same_width none us ws c e f = absurd (omega (arith, c))
same_width (more t none) us ws c e f = absurd (omega (arith, c))
same_width (more t (more u none)) us ws c e f = rw (e, f) refl
same_width (more t (more u (more w ts))) us ws c e f = absurd (omega (arith, c))

left_in : (v : ℕ) (t : Tree ℕ) (ts : Trees ℕ) → IsIn v (variables t ++ []) → IsIn v (variables t ++ variables_all ts)
left_in v t ts i = elim (IsIn-either v (variables t) [] i) [ inl j ↦ IsIn-left v (variables t) (variables_all ts) j | inr j ↦ absurd j ]

pub left_over : (r : Row) (n : ℕ) (ts us : Trees ℕ) → 0 < count ts → us ≡ more (first ts) none → AreOver r (counted_all n ts) → AreOver r (counted_all n us)
left_over r n none us c e h = absurd (omega (arith, c))
left_over r n (more t ts) us c e h = subst (λ x. AreOver r (counted_all n x)) (sym e) (λ v i. h v (left_in v (counted_from n t) (counted_all n ts) i))

pub right_over : (r : Row) (n : ℕ) (ts ws : Trees ℕ) → ws ≡ rest ts → AreOver r (counted_all n ts) → AreOver r (counted_all n ws)
right_over r n none ws e h = subst (λ x. AreOver r (counted_all n x)) (sym e) h
right_over r n (more t ts) ws e h = subst (λ x. AreOver r (counted_all n x)) (sym e) (λ v i. h v (IsIn-right v (variables (counted_from n t)) (variables_all (counted_all n ts)) i))
