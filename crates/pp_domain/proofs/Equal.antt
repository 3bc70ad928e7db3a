-- The test of two lists of intervals for equality.
use Rattle.std.proofs.Common.{◌≡◌, ℤ, List, refl, ap}
use Rattle.std.specs.Bool.{Decides}
use Rattle.std.proofs.lemmas.Bool.Decides.{Decides-and, Decides-like, Decides-int_eq}
use Rattle.std.proofs.lemmas.Slice.Eq.{slice_eq-Decides}
use Rattle.pp_domain.specs.Equality.{same_ends, same_intervals}

ends_tell : (p q : ℤ × ℤ) → Decides (same_ends p q) (p ≡ q)
ends_tell p q =
    Decides-like _ (λ e i. (e.0 i, e.1 i)) (λ e. (ap (λ (z : ℤ × ℤ). z.0) e, ap (λ (z : ℤ × ℤ). z.1) e))
    (Decides-and _ _ (Decides-int_eq p.0 q.0) (Decides-int_eq p.1 q.1))

pub intervals_tell : (ps qs : List (ℤ × ℤ)) → Decides (same_intervals ps qs) (ps ≡ qs)
intervals_tell ps qs = slice_eq-Decides ends_tell ps qs _ refl
