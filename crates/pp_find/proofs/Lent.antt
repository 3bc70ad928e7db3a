-- The widest row that is kept, lent to test a leaf.
use Rattle.std.proofs.Common.{◌≡◌, ℕ, ◌<◌, List, [], ◌∷◌, length, get_or, Bool, Option, Some, None, arith}
use Rattle.std.specs.Borrow.{Bor}
use Rattle.std.specs.List.{slice_get}
use Rattle.std.specs.Option.{IfSome, option_copied}
use Rattle.pp_algebra.specs.Rows.{Row}
use Rattle.pp_algebra.specs.Covers.{RowCovers}
use Rattle.pp_sld.specs.Findings.{join_option}
use Rattle.pp_sld.specs.Lattice.{IsUnder}
use Rattle.pp_find.specs.Common.{common, Keeps}
use Rattle.pp_find.proofs.Commons.{covered}
use Rattle.pp_find.proofs.Kept.{answers-under, loose-under, loose-known, loose-more, more-under, some-under}

-- what is said of the first row
pub first_row : (o : Option (Bor Row)) (xs : List Row) (Q : Row → Type 0) → option_copied o ≡ slice_get xs 0 → ((w : Row) → 0 < length xs → w ≡ get_or xs 0 w → Q w) → IfSome o (λ w. Q w.now)
first_row None xs Q e f = tt
first_row (Some b) [] Q e f = absurd (cc)
first_row (Some b) (x ∷ xs) Q e f = f b.now (omega arith) (cc)

pub some_weaker : {X : Type 0} (o : Option X) (P Q : X → Type 0) → ((x : X) → P x → Q x) → IfSome o P → IfSome o Q
some_weaker None P Q f h = tt
some_weaker (Some x) P Q f h = f x h

module _ (call : Row) (xs zs : List Row) (o : Option Row) (s : Bool) (k : ∥ Keeps call xs zs o s ∥₁) (w r : Row) (u : IsUnder call r) (c : RowCovers w r) where
  -- one answer more that an answer covers
  pub answer-lent : 0 < length xs → w ≡ get_or xs 0 w → common xs ≡ join_option (common xs) (Some r)
  answer-lent l e = covered xs 0 w r (some-under call (r ∷ xs) (more-under call xs r (answers-under call xs zs o s k) u.0 u.1)) l e c

  -- one loose end more that an answer covers
  pub loose-lent-answer : 0 < length xs → w ≡ get_or xs 0 w → join_option (common xs) (common zs) ≡ join_option (join_option (common xs) (common zs)) (Some r)
  loose-lent-answer l e = loose-known call xs zs r (answers-under call xs zs o s k) (loose-under call xs zs o s k) u (answer-lent l e)

  -- or that a loose end covers
  pub loose-lent : 0 < length zs → w ≡ get_or zs 0 w → join_option (common xs) (common zs) ≡ join_option (join_option (common xs) (common zs)) (Some r)
  loose-lent l e = loose-more call xs zs zs r (answers-under call xs zs o s k) (loose-under call xs zs o s k) u (covered zs 0 w r (some-under call (r ∷ zs) (more-under call zs r (loose-under call xs zs o s k) u.0 u.1)) l e c)
