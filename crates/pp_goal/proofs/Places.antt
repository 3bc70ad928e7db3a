-- The arguments of a goal by their places among its cells.
use Rattle.std.proofs.Common.{◌≡◌, ℕ, zero, suc, ◌+◌, ◌<◌, ◌≤◌, List, [], ◌∷◌, Option, refl, ap, ◌∙◌, arith}
use Rattle.pp_algebra.specs.Terms.{Trees, none, more, count}
use Rattle.pp_algebra.specs.Rows.{Domain}
use Rattle.pp_algebra.specs.Givens.{given, givens}
use Rattle.pp_algebra.specs.Least.{first, rest}
use Rattle.pp_algebra.specs.Numbered.{column}
use Rattle.pp_row.specs.declared.cell.Cell.{Cell}
use Rattle.pp_row.specs.Reading.{tree_of, all_of, forest, IsOneTerm}
use Rattle.pp_goal.specs.Arguments.{after}
use Rattle.pp_row.proofs.OneTerm.{reads_one}
pub use Rattle.pp_row.proofs.OneTerm.{one_is_forest}

pub after-rest : (k : ℕ) (ts : Trees ℕ) → after k (rest ts) ≡ rest (after k ts)
after-rest zero ts = refl
after-rest (suc k) ts = ap rest (after-rest k ts)

pub column-after : (k : ℕ) (ts : Trees ℕ) → k < count ts → column ts k ≡ first (after k ts)
column-after zero none l = absurd (omega (arith, l))
column-after (suc k) none l = absurd (omega (arith, l))
column-after zero (more t ts) l = refl
column-after (suc k) (more t ts) l = column-after k ts (omega (arith, l)) ∙ ap first (after-rest k (more t ts))

count-rest : (ts : Trees ℕ) → 0 < count ts → count (rest ts) + 1 ≡ count ts
count-rest none l = absurd (omega (arith, l))
count-rest (more t ts) l = omega arith

pub count-after : (k : ℕ) (ts : Trees ℕ) → k ≤ count ts → count (after k ts) + k ≡ count ts
count-after zero ts l = omega arith
count-after (suc k) ts l =
    let i = count-after k ts (omega (arith, l)) in
    let r = count-rest (after k ts) (omega (arith, l, i)) in
    omega (arith, i, r)

pub column-first : (ts : Trees ℕ) → 0 < count ts → column ts 0 ≡ first ts
column-first none l = absurd (omega (arith, l))
column-first (more t ts) l = refl

-- the cells of one term

pub one_forest : (cs : List Cell) → IsOneTerm cs → forest cs ≡ more (tree_of cs) none
one_forest cs h = ap all_of (reads_one cs h)

-- what is known of one, two or three terms
pub one_given : (ds : List (Option Domain)) (ts : Trees ℕ) → count ts ≡ 1 → givens ds ts ≡ given ds (column ts 0) ∷ []
one_given ds none e = absurd (omega (arith, e))
one_given ds (more t none) e = refl
one_given ds (more t (more u ts)) e = absurd (omega (arith, e))

pub two_givens : (ds : List (Option Domain)) (ts : Trees ℕ) → count ts ≡ 2 → givens ds ts ≡ given ds (column ts 0) ∷ given ds (column ts 1) ∷ []
two_givens ds none e = absurd (omega (arith, e))
two_givens ds (more t none) e = absurd (omega (arith, e))
two_givens ds (more t (more u none)) e = refl
two_givens ds (more t (more u (more w ts))) e = absurd (omega (arith, e))

pub three_givens : (ds : List (Option Domain)) (ts : Trees ℕ) → count ts ≡ 3 → givens ds ts ≡ given ds (column ts 0) ∷ given ds (column ts 1) ∷ given ds (column ts 2) ∷ []
three_givens ds none e = absurd (omega (arith, e))
three_givens ds (more t none) e = absurd (omega (arith, e))
three_givens ds (more t (more u none)) e = absurd (omega (arith, e))
three_givens ds (more t (more u (more w none))) e = refl
three_givens ds (more t (more u (more w (more x ts)))) e = absurd (omega (arith, e))
