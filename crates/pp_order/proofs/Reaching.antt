-- Domains of variables, and where these may go.
use Rattle.std.proofs.Common.{◌≡◌, ℕ, ℤ, zero, suc, Bool, true, List, Option, Some, None, refl, ap, sym, ◌∙◌, subst}
use Rattle.std.specs.Prelude.{MatchOption, ◌↔◌}
use Rattle.std.specs.Borrow.{Bor}
use Rattle.std.specs.Option.{option_copied}
use Rattle.std.specs.FinSet as set
use Rattle.std.specs.Cmp.{int_cmp_total}
use Rattle.pp_algebra.specs.Terms.{Tree, int, node, variable, count}
use Rattle.pp_algebra.specs.Rows.{Domain, Domains}
use Rattle.pp_algebra.specs.Covers.{IsWithin, MayGo}
use Rattle.pp_domain.specs.Sets.{set_of}
use Rattle.pp_row.specs.Columns.{set_by}
use Rattle.pp_row.specs.Cells.{head_of}
use Rattle.pp_row.proofs.Next.{cell_of}
use Rattle.pp_order.specs.Reach.{Reaches}

-- a domain behind a reference
pub behind : (o : Option (Bor (List (ℤ × ℤ)))) (x : Option (List (ℤ × ℤ))) (y : Option Domain) → option_copied o ≡ x → y ≡ set_by x → MatchOption o (y ≡ None) (λ d. y ≡ Some (set_of d.now))
behind None x y e f = f ∙ ap set_by (sym e)
behind (Some d) x y e f = f ∙ ap set_by (sym e)

-- `inside` tells what lies within
pub within_told : (b : Bool) (d e : Domain) (o : Option Domain) → o ≡ Some e → b ≡ set.is_subset e d → (b ≡ true) ↔ IsWithin d o
within_told b d e o f g = subst (λ x. (b ≡ true) ↔ IsWithin d x) (sym f) (
  λ h. set.is_subset-contains int_cmp_total e d (sym g ∙ h),
  λ h. g ∙ set.contains-is_subset int_cmp_total e d h,
)

-- where a variable may go is told by the first cell
pub reach_told : (ds : Domains ℕ) (o : Option Domain) (t : Tree ℕ) → Reaches ds o (cell_of t) ≡ MayGo ds o t
reach_told ds None t = refl
reach_told ds (Some d) (int n) = refl
reach_told ds (Some d) (node f ts) = go (count ts)
  where
    go : (k : ℕ) → Reaches ds (Some d) (head_of f k) ≡ ⊥
    go zero = refl
    go (suc k) = refl
reach_told ds (Some d) (variable w) = refl
