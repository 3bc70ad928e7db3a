-- From the integers of intervals to the sets that the operations speak of.
use Rattle.std.proofs.Common.{◌≡◌, ℤ, ◌⊎◌, List, [], sym, subst, Option, Some, None}
use Rattle.std.specs.Prelude.{◌↔◌, ◌≢◌, MatchOption}
use Rattle.std.specs.FinSet as set
use Rattle.std.specs.Cmp.{int_cmp_total}
use Rattle.std.specs.Bool.{Decides}
use Rattle.std.proofs.lemmas.Bool.Decides.{Decides-like, Decides-at, Decides-and, Decides-or, Decides-not, Decides-int_eq}
use Rattle.pp_domain.specs.Intervals.{Lies, IsDomain}
use Rattle.pp_domain.specs.Sets.{set_of, IsDomainOf, IsDomainOrNone}
use Rattle.pp_algebra.specs.Rows.{Domain}
use Rattle.pp_domain.proofs.Members.{contains_lies}
use Rattle.pp_domain.proofs.Canonical.{set_is, empty_is}

-- the members of s are the integers that lie in rs
abbrev pub Holds : Domain → List (ℤ × ℤ) → Type 0
Holds s rs = (v : ℤ) → Decides (set.contains s v) (Lies rs v)

domain_or_none : (s : Domain) (rs : List (ℤ × ℤ)) (r : Option (List (ℤ × ℤ))) → Holds s rs → MatchOption r (rs ≡ []) (λ d. IsDomain d × (d ≡ rs)) → IsDomainOrNone r s
domain_or_none s rs None h m = empty_is s (λ v k. subst (λ (xs : List (ℤ × ℤ)). Lies xs v) m ((h v).0 k))
domain_or_none s rs (Some d) h m = (m.0, set_is d s m.0 (subst (Holds s) (sym m.1) h))

both_hold : (ps qs rs : List (ℤ × ℤ)) → IsDomain ps → IsDomain qs → ((v : ℤ) → Lies rs v ↔ (Lies ps v × Lies qs v)) → Holds (set.intersection (set_of ps) (set_of qs)) rs
both_hold ps qs rs d e h v =
    Decides-at _ _ (set.contains-intersection int_cmp_total (set_of ps) (set_of qs) v)
    (Decides-like _ (h v).1 (h v).0 (Decides-and _ _ (contains_lies ps v d) (contains_lies qs v e)))

either_holds : (ps qs rs : List (ℤ × ℤ)) → IsDomain ps → IsDomain qs → ((v : ℤ) → Lies rs v ↔ (Lies ps v ⊎ Lies qs v)) → Holds (set.union (set_of ps) (set_of qs)) rs
either_holds ps qs rs d e h v =
    Decides-at _ _ (set.contains-union int_cmp_total (set_of ps) (set_of qs) v)
    (Decides-like _ (h v).1 (h v).0 (Decides-or _ _ (contains_lies ps v d) (contains_lies qs v e)))

others_hold : (ps rs : List (ℤ × ℤ)) (w : ℤ) → IsDomain ps → ((v : ℤ) → Lies rs v ↔ (Lies ps v × (v ≢ w))) → Holds (set.remove (set_of ps) w) rs
others_hold ps rs w d h v =
    Decides-at _ _ (set.contains-remove int_cmp_total (set_of ps) w v)
    (Decides-like _ (λ k. (h v).1 (k.1, k.0)) (λ k. let m = (h v).0 k in (m.1, m.0)) (Decides-and _ _ (Decides-not _ (Decides-int_eq v w)) (contains_lies ps v d)))

-- ---- as the methods have them: `cs` and `ds` are the slices of the domains ps and qs

pub meet_is : (cs ds ps qs rs : List (ℤ × ℤ)) (r : Option (List (ℤ × ℤ))) → cs ≡ ps → ds ≡ qs → IsDomain cs → IsDomain ds → ((v : ℤ) → Lies rs v ↔ (Lies cs v × Lies ds v))
    → MatchOption r (rs ≡ []) (λ d. IsDomain d × (d ≡ rs)) → IsDomainOrNone r (set.intersection (set_of ps) (set_of qs))
meet_is cs ds ps qs rs r e f a b h m =
    subst (λ (xs : List (ℤ × ℤ)). IsDomainOrNone r (set.intersection (set_of xs) (set_of qs))) e
    (subst (λ (ys : List (ℤ × ℤ)). IsDomainOrNone r (set.intersection (set_of cs) (set_of ys))) f (domain_or_none _ rs r (both_hold cs ds rs a b h) m))

pub without_is : (cs ps rs : List (ℤ × ℤ)) (v w : ℤ) (r : Option (List (ℤ × ℤ))) → cs ≡ ps → v ≡ w → IsDomain cs → ((u : ℤ) → Lies rs u ↔ (Lies cs u × (u ≢ v)))
    → MatchOption r (rs ≡ []) (λ d. IsDomain d × (d ≡ rs)) → IsDomainOrNone r (set.remove (set_of ps) w)
without_is cs ps rs v w r e f a h m =
    subst (λ (xs : List (ℤ × ℤ)). IsDomainOrNone r (set.remove (set_of xs) w)) e
    (subst (λ (z : ℤ). IsDomainOrNone r (set.remove (set_of cs) z)) f (domain_or_none _ rs r (others_hold cs rs v a h) m))

pub union_is : (cs ds ps qs rs : List (ℤ × ℤ)) → cs ≡ ps → ds ≡ qs → IsDomain cs → IsDomain ds → IsDomain rs → ((v : ℤ) → Lies rs v ↔ (Lies cs v ⊎ Lies ds v))
    → IsDomainOf rs (set.union (set_of ps) (set_of qs))
union_is cs ds ps qs rs e f a b d h =
    subst (λ (xs : List (ℤ × ℤ)). IsDomainOf rs (set.union (set_of xs) (set_of qs))) e
    (subst (λ (ys : List (ℤ × ℤ)). IsDomainOf rs (set.union (set_of cs) (set_of ys))) f (d, set_is rs _ d (either_holds cs ds rs a b h)))
