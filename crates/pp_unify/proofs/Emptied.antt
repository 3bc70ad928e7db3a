-- Nothing is in the empty set.
use Rattle.std.proofs.Common.{◌≡◌, ℕ, ℤ, true, [], ◌∷◌, Option, Some, None}
use Rattle.std.specs.FinSet as set
use Rattle.std.specs.Ordering.{int_cmp}
use Rattle.pp_algebra.specs.Terms.{Tree, int, node, variable, put}
use Rattle.pp_algebra.specs.Rows.{Domain, Row, IsRow, IsWide, domain_at, pattern_of}
use Rattle.pp_algebra.specs.Covers.{IsWithin, MayGo}
use Rattle.pp_algebra.specs.Solve.{membership, HasNone}
use Rattle.pp_algebra.proofs.Member.{members}
use Rattle.pp_algebra.proofs.WideLeast.{wide_at}

no_empty : (n : ℤ) → set.contains {R = int_cmp} set.empty n ≡ true → ⊥
no_empty n h = let e = set.contains-empty int_cmp n in absurd (cc)

not_within : (o : Option Domain) → IsWide o → IsWithin set.empty o → ⊥
not_within None w h = h
not_within (Some e) w h = let m = members e w in no_empty m.0 (h m.0 m.1)

never_goes : (r : Row) (t : Tree ℕ) → IsRow r → MayGo (domain_at r.domains) (Some set.empty) t → ⊥
never_goes r (int n) row h = no_empty n h
never_goes r (node f ts) row h = h
never_goes r (variable v) row h = not_within (domain_at r.domains v) (wide_at r.domains v row.wide) h

pub empty_has_none : (r : Row) (t : Tree ℕ) → HasNone (pattern_of r) (membership t set.empty ∷ [])
empty_has_none r t q row m = never_goes q (put m.by t) row m.holds.0
