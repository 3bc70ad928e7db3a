-- Arguments whose tops differ at some place of their cells.
use Rattle.std.proofs.Common.{◌≡◌, ℕ, zero, suc, ◌+◌, ◌<◌, false, List, length, pos, Some, refl, ap, sym, ◌∙◌}
use Rattle.pp_algebra.specs.Terms.{Tree, int, node, variable, Trees, none, more, put_all}
use Rattle.pp_algebra.specs.Least.{rest}
use Rattle.pp_algebra.specs.Rows.{Row}
use Rattle.pp_row.specs.declared.cell.Cell.{Cell}
use Rattle.pp_row.specs.declared.cell.Cell.TheVariants as cells
use Rattle.pp_row.specs.Reading.{IsForest, forest, from}
use Rattle.pp_row.proofs.Next.{cell_of, next}
use Rattle.pp_heap.specs.Values.{cell_at, term_at}
use Rattle.pp_heap.proofs.Forests.{term_cell}
use Rattle.pp_clause.specs.Firsts.{top, may_be}
use Rattle.pp_unify.specs.States.{value_in, in_place, first_cell}
use Rattle.pp_unify.specs.Forests.{counted_all}
use Rattle.pp_algebra.specs.Numbered.{counted_from}
use Rattle.pp_goal.specs.Apart.{top_by, AreApart, AreApartAt}
use Rattle.pp_goal.specs.Arguments.{after}
use Rattle.pp_goal.proofs.Places.{after-rest}
use Rattle.pp_goal.proofs.Tops.{top_is}

rest-put : (s : ℕ → Tree ℕ) (ts : Trees ℕ) → rest (put_all s ts) ≡ put_all s (rest ts)
rest-put s none = refl
rest-put s (more t ts) = refl

after-put : (k : ℕ) (s : ℕ → Tree ℕ) (ts : Trees ℕ) → after k (put_all s ts) ≡ put_all s (after k ts)
after-put zero s ts = refl
after-put (suc k) s ts = ap rest (after-put k s ts) ∙ rest-put s (after k ts)

after-none : (k : ℕ) → after k none ≡ none
after-none zero = refl
after-none (suc k) = ap rest (after-none k)

apart_after : (k : ℕ) (ts us xs ys : Trees ℕ) (t u : Tree ℕ) → after k ts ≡ more t xs → after k us ≡ more u ys → may_be (top t) (top u) ≡ false → AreApartAt k ts us
apart_after k none us xs ys t u e f h = absurd (cc (sym (after-none k) ∙ e))
apart_after k (more a ts) none xs ys t u e f h = absurd (cc (sym (after-none k) ∙ f))
apart_after zero (more a ts) (more b us) xs ys t u e f h =
    let p : a ≡ t = cc in
    let q : b ≡ u = cc in
    ap (λ x. may_be (top x) (top b)) p ∙ ap (λ x. may_be (top t) (top x)) q ∙ h
apart_after (suc k) (more a ts) (more b us) xs ys t u e f h = apart_after k ts us xs ys t u (after-rest k (more a ts) ∙ e) (after-rest k (more b us) ∙ f) h

-- the top of a head's term
head_top : (cs : List Cell) (at : ℕ) → IsForest cs → at < length cs → top (term_at cs at) ≡ top_by (Some (cell_at cs at))
head_top cs at h l = go (term_at cs at) ∙ ap (λ c. top_by (Some c)) (term_cell cs at h l)
  where
    go : (t : Tree ℕ) → top t ≡ top_by (Some (cell_of t))
    go (int n) = refl
    go (node f none) = refl
    go (node f (more t ts)) = refl
    go (variable v) = refl

pub apart_here : (r : Row) (n : ℕ) (gs hs : List Cell) (at : ℕ) → IsForest gs → IsForest hs → at < length gs → at < length hs
    → from gs at ≡ after at (forest gs) → from hs at ≡ after at (forest hs)
    → may_be (top_by (first_cell (in_place r (counted_from n (term_at gs at))))) (top_by (Some (cell_at hs at))) ≡ false
    → AreApart (put_all (value_in r) (counted_all n (forest gs))) (forest hs)
apart_here r n gs hs at f g l m e d h =
    let some = (next gs at (cells.Int (pos 0)) f l).some in
    let there = (next hs at (cells.Int (pos 0)) g m).some in
    let c : ℕ → Tree ℕ = λ v. variable (n + v) in
    let t = in_place r (counted_from n (term_at gs at)) in
    let a : after at (put_all (value_in r) (counted_all n (forest gs))) ≡ more t (put_all (value_in r) (counted_all n (rest (from gs at)))) =
    after-put at (value_in r) (put_all c (forest gs)) ∙ ap (put_all (value_in r)) (after-put at c (forest gs) ∙ ap (put_all c) (sym e ∙ some)) in
    let b : after at (forest hs) ≡ more (term_at hs at) (rest (from hs at)) = sym d ∙ there in (
      at,
      apart_after at (put_all (value_in r) (counted_all n (forest gs))) (forest hs) _ _ t (term_at hs at) a b
          (ap (λ x. may_be x (top (term_at hs at))) (top_is t) ∙ ap (may_be (top_by (first_cell t))) (head_top hs at g m) ∙ h),
    )
