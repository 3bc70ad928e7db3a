-- A domain of one member, and what two domains have in common.
use Rattle.std.proofs.Common.{◌≡◌, ℕ, ℤ, zero, suc, ◌<◌, ◌≤◌, List, [], ◌∷◌, length, get_or, true, false, slice_index_or, Option, Some, None, refl, ap, sym, ◌∙◌, subst, inl, arith}
use Rattle.std.specs.Prelude.{◌↔◌}
use Rattle.std.specs.FinSet as set
use Rattle.std.proofs.lemmas.Int.{ints}
use Rattle.pp_algebra.specs.Terms.{Tree}
use Rattle.pp_algebra.specs.Rows.{Domain, Domains}
use Rattle.pp_algebra.specs.Covers.{MayGo}
use Rattle.pp_algebra.specs.Members.{IsInteger}
use Rattle.pp_algebra.proofs.SetKinds.{goes_nowhere, goes_both, goes_weaker, in_left, in_right, goes_to_one, Kind, kind, no_member, one_member, more_members}
use Rattle.pp_domain.specs.Intervals.{IsDomain, Lies, lower_limit, upper_limit}
use Rattle.std.specs.Ordering.{int_cmp}
use Rattle.std.proofs.lemmas.List.{get_or_read_under}
use Rattle.pp_domain.specs.Sets.{set_of, IsDomainOrNone}
use Rattle.pp_heap.specs.Values.{domain_by}
use Rattle.pp_heap.specs.declared.bind.Meeting.{Meeting}
use Rattle.pp_domain.proofs.Members.{contains_lies}
use Rattle.pp_domain.proofs.Canonical.{lies_above, lies_below, not_empty}
use Rattle.pp_heap.specs.declared.bind.Meeting.TheVariants.{Empty, One, Many}
use Rattle.pp_heap.specs.Outcomes.{HasOnly, IsMeeting, IsSettled}

pub first_lies : (ps : List (ℤ × ℤ)) (d : ℤ × ℤ) → IsDomain ps → Lies ps (get_or ps 0 d).0
first_lies [] d h = absurd (omega (arith, h.some))
first_lies (p ∷ ps) d h = inl (omega (arith, ints), h.apart.1)

integer_of : (ps : List (ℤ × ℤ)) (v : ℤ) → IsDomain ps → Lies ps v → IsInteger v
integer_of ps v h l =
    let a = lies_above ps lower_limit upper_limit v h.apart l in
    let b = lies_below ps lower_limit upper_limit v h.apart l in
    record { at_least = omega (arith, ints, a); at_most = omega (arith, ints, b) }

only_of : (d : Domain) (v : ℤ) → set.len d ≡ 1 → set.contains d v ≡ true → (n : ℤ) → set.contains d n ≡ true → n ≡ v
only_of d v e m n h = go (kind d)
  where
    go : Kind d → n ≡ v
    go (no_member k) = absurd (k v m)
    go (one_member k i o) = o n h ∙ sym (o v m)
    go (more_members l) = absurd (omega (arith, l, e))

pub has_only : (ps : List (ℤ × ℤ)) (v : ℤ) → IsDomain ps → set.len (set_of ps) ≡ 1 → Lies ps v → HasOnly (set_of ps) v
has_only ps v h e l =
    let m = (contains_lies ps v h).1 l in
    record { integer = integer_of ps v h l; member = m; only = only_of (set_of ps) v e m }

pub at_least_two : (ps : List (ℤ × ℤ)) → IsDomain ps → (set.len (set_of ps) ≡ 1 → ⊥) → 2 ≤ set.len (set_of ps)
at_least_two ps h k = go (set.len (set_of ps)) refl
  where
    go : (n : ℕ) → set.len (set_of ps) ≡ n → 2 ≤ set.len (set_of ps)
    go zero e = absurd (not_empty ps h (set.empty_of_len (set_of ps) e))
    go (suc zero) e = absurd (k (e ∙ omega arith))
    go (suc (suc n)) e = omega (arith, e)

-- a domain of one member
pub one_meets : (places : List (List (ℤ × ℤ))) (d : Domain) (n : ℤ) → HasOnly d n → IsMeeting places None (Some d) (One n)
one_meets places d n h = (h.integer, λ ds t w. ((λ e. (tt, subst (MayGo ds (Some d)) (sym e) h.member)), λ g. goes_to_one ds d n t w h.only g.1))

both_ways : (ds : Domains ℕ) (d e : Domain) (t : Tree ℕ) → MayGo ds (Some (set.intersection d e)) t ↔ (MayGo ds (Some d) t × MayGo ds (Some e) t)
both_ways ds d e t = (
  (λ g. (goes_weaker ds (set.intersection d e) d t (λ n h. in_left d e n h) g, goes_weaker ds (set.intersection d e) e t (λ n h. in_right d e n h) g)),
  λ g. goes_both ds d e t g.0 g.1,
)

in_none : (d : Domain) → d ≡ set.empty → (n : ℤ) → set.contains d n ≡ true → ⊥
in_none d e n h = let f : set.contains d n ≡ false = ap (λ x. set.contains x n) e ∙ set.contains-empty int_cmp n in absurd (cc)

-- what is settled of the meet of two domains
settled_meets : (places : List (List (ℤ × ℤ))) (d e : Domain) (ps : List (ℤ × ℤ)) (m : Meeting) → set_of ps ≡ set.intersection d e → IsMeeting places None (Some (set_of ps)) m → IsMeeting places (Some d) (Some e) m
settled_meets places d e ps Empty q h = λ ds t w g k. h ds t w tt (subst (λ x. MayGo ds (Some x) t) (sym q) ((both_ways ds d e t).1 (g, k)))
settled_meets places d e ps (One n) q h = (
  h.0,
  λ ds t w. let i = h.1 ds t w in let b = both_ways ds d e t in
      ((λ r. b.0 (subst (λ x. MayGo ds (Some x) t) q (i.0 r).1)), λ r. i.1 (tt, subst (λ x. MayGo ds (Some x) t) (sym q) (b.1 r))),
)
settled_meets places d e ps (Many k) q h = (
  h.0,
  λ ds t w. let i = h.1 ds t w in let b = both_ways ds d e t in
      ((λ r. b.0 (subst (λ x. MayGo ds (Some x) t) q (i.0 r).1)), λ r. i.1 (tt, subst (λ x. MayGo ds (Some x) t) (sym q) (b.1 r))),
)

pub meet_meets : (places : List (List (ℤ × ℤ))) (d e : Domain) (common : Option (List (ℤ × ℤ))) (m : Meeting) → IsDomainOrNone common (set.intersection d e) → IsSettled places common m → IsMeeting places (Some d) (Some e) m
meet_meets places d e None m q h = rw h (λ ds t w g k. goes_nowhere ds (set.intersection d e) t w (in_none (set.intersection d e) q) (goes_both ds d e t g k))
meet_meets places d e (Some ps) m q h = settled_meets places d e ps m q.1 h

-- what a read of the domains gives
pub domain_read : (ds : List (List (ℤ × ℤ))) (k : ℕ) (ps : List (ℤ × ℤ)) → ps ≡ slice_index_or ds k ps → k < length ds → domain_by ds (Some k) ≡ Some (set_of ps)
domain_read ds k ps e l = ap (λ x. Some (set_of x)) (sym (get_or_read_under ds k (length ds) ps [] e l refl))
