-- The worked examples of solving hold.
use Rattle.std.proofs.Common.{◌≡◌, ℕ, ℤ, zero, suc, pos, true, false, [], ◌∷◌, Some, None, refl, ap, sym, ◌∙◌, subst, inl, inr, arith}
use Rattle.std.specs.FinSet as set
use Rattle.std.specs.Ordering.{int_eq}
use Rattle.std.proofs.Math.Bool.{or-false}
use Rattle.std.proofs.lemmas.List.Elements.{All-nil, All-cons}
use Rattle.pp_algebra.specs.Terms.{Tree, variable}
use Rattle.pp_algebra.specs.Rows.{Domains, domain_at, IsWide, AreWide, IsRow}
use Rattle.pp_algebra.specs.Covers.{MayGo}
use Rattle.pp_algebra.specs.Solve.{equation}
use Rattle.pp_algebra.specs.Examples.{number, atom_a, one_column, two_columns, row, one_or_two, two_or_three, all_any}
use Rattle.pp_algebra.specs.SolvingExamples.{only_three, One, ranged, two, SameSides, SidesDiffer, AnyIsReplaced, RangedIsReplaced, RangedAreMerged, MembersHold, VariablesAreNarrowed}
use Rattle.pp_algebra.proofs.Bools.{int_is}
use Rattle.pp_algebra.proofs.Resume.{wide_at}
use Rattle.pp_algebra.proofs.SetKinds.{goes_both, goes_to_one}
use Rattle.pp_algebra.proofs.Worked.{in_only, in_pair, in_one_or_two, two_alone, two_make}
use Rattle.pp_algebra.proofs.WideLeast.{wide_two}

-- ===== rows

no_domains : AreWide []
no_domains = All-nil IsWide

any_row : IsRow (row (one_column (variable 0)) (None ∷ []))
any_row = record { canonical = inr (refl, refl); wide = All-cons IsWide None [] tt no_domains }

wide_pair : IsWide (Some one_or_two)
wide_pair = subst (λ d. IsWide (Some d)) (two_make (pos 1) (pos 2)) (wide_two (pos 1) (pos 2) refl)

ranged_row : IsRow (row (one_column (variable 0)) (Some one_or_two ∷ []))
ranged_row = record { canonical = inr (refl, refl); wide = All-cons IsWide (Some one_or_two) [] wide_pair no_domains }

shared_row : IsRow (row (two_columns (variable 0) (variable 0)) (Some one_or_two ∷ []))
shared_row = record { canonical = inr (refl, inl (omega arith, refl)); wide = All-cons IsWide (Some one_or_two) [] wide_pair no_domains }

-- ===== an item that changes nothing

any_stays : (q : Domains ℕ) (t : Tree ℕ) (v : ℕ) → MayGo q (domain_at (None ∷ []) v) t
any_stays q t zero = tt
any_stays q t (suc v) = tt

same_side : One all_any (equation (variable 0) (variable 0)) (row (one_column (variable 0)) (None ∷ []))
same_side = record {
  row = any_row;
  meets = record { by = variable; columns = refl; domains = λ v. tt; holds = (refl, tt) };
  most = λ q n m. record { by = m.by; columns = m.columns; domains = λ v i. any_stays (domain_at q.domains) (m.by v) v };
}

same_integer : One all_any (equation (number 1) (number 1)) (row (one_column (variable 0)) (None ∷ []))
same_integer = record {
  row = any_row;
  meets = record { by = variable; columns = refl; domains = λ v. tt; holds = (refl, tt) };
  most = λ q n m. record { by = m.by; columns = m.columns; domains = λ v i. any_stays (domain_at q.domains) (m.by v) v };
}

pub same_sides : SameSides
same_sides = (same_side, same_integer)

pub sides_differ : SidesDiffer
sides_differ = ((λ q n m. absurd (cc (m.holds.0))), (λ q n m. absurd (cc (m.holds.0))), (λ q n m. absurd (cc (m.holds.0))), λ q n m. absurd (cc (m.holds.0)))

-- ===== a variable that becomes a term

becomes_one : IsRow (row (one_column (number 1)) [])
becomes_one = record { canonical = refl; wide = no_domains }

pub any_is_replaced : AnyIsReplaced
any_is_replaced = (
  record {
    row = becomes_one;
    meets = record { by = λ v. number 1; columns = refl; domains = λ v. tt; holds = (refl, tt) };
    most = λ q n m. record { by = variable; columns = ap one_column (sym m.holds.0) ∙ m.columns; domains = λ v i. absurd i };
  },
  record {
    row = record { canonical = refl; wide = no_domains };
    meets = record { by = λ v. atom_a; columns = refl; domains = λ v. tt; holds = (refl, tt) };
    most = λ q n m. record { by = variable; columns = ap one_column m.holds.0 ∙ m.columns; domains = λ v i. absurd i };
  },
)

in_range : (q : Domains ℕ) (v : ℕ) → MayGo q (ranged v) (number 1)
in_range q zero = in_one_or_two (pos 1) true refl
in_range q (suc v) = tt

three_is_out : set.contains one_or_two (pos 3) ≡ true → ⊥
three_is_out h = let f : set.contains one_or_two (pos 3) ≡ false = in_one_or_two (pos 3) false refl in absurd (cc (h, f))

pub ranged_is_replaced : RangedIsReplaced
ranged_is_replaced = (
  record {
    row = becomes_one;
    meets = record { by = λ v. number 1; columns = refl; domains = λ v. in_range (domain_at []) v; holds = (refl, tt) };
    most = λ q n m. record { by = variable; columns = ap one_column (sym m.holds.0) ∙ m.columns; domains = λ v i. absurd i };
  },
  (λ q n m. three_is_out (subst (MayGo (domain_at q.domains) (Some one_or_two)) m.holds.0 (m.domains 0))),
  (λ q n m. subst (MayGo (domain_at q.domains) (Some one_or_two)) m.holds.0 (m.domains 0)),
)

-- ===== two variables that become one

stays_ranged : (q : Domains ℕ) (by : ℕ → Tree ℕ) → MayGo q (Some one_or_two) (by 0) → (v : ℕ) → MayGo q (domain_at (Some one_or_two ∷ []) v) (by v)
stays_ranged q by h zero = h
stays_ranged q by h (suc v) = tt

both_ranged : (v : ℕ) → MayGo (domain_at (Some one_or_two ∷ [])) (two one_or_two one_or_two v) (variable 0)
both_ranged zero = λ n h. h
both_ranged (suc zero) = λ n h. h
both_ranged (suc (suc v)) = tt

both_two : (v : ℕ) → MayGo (domain_at []) (two one_or_two two_or_three v) (number 2)
both_two zero = in_one_or_two (pos 2) true refl
both_two (suc zero) = in_pair (pos 2) (pos 3) (pos 2)
both_two (suc (suc v)) = tt

three_alone : (k : ℤ) → set.contains only_three k ≡ true → k ≡ pos 3
three_alone k h = int_is k (pos 3) (sym (or-false (int_eq k (pos 3))) ∙ sym (in_only (pos 3) k) ∙ h)

pub ranged_are_merged : RangedAreMerged
ranged_are_merged = (
  record {
    row = shared_row;
    meets = record { by = λ v. variable 0; columns = refl; domains = both_ranged; holds = (refl, tt) };
    most = λ q n m. record { by = m.by; columns = ap (two_columns (m.by 0)) m.holds.0 ∙ m.columns; domains = λ v i. stays_ranged (domain_at q.domains) m.by (m.domains 0) v };
  },
  record {
    row = record { canonical = refl; wide = no_domains };
    meets = record { by = λ v. number 2; columns = refl; domains = both_two; holds = (refl, tt) };
    most = λ q n m.
        let other : MayGo (domain_at q.domains) (Some two_or_three) (m.by 0) = subst (MayGo (domain_at q.domains) (Some two_or_three)) (sym m.holds.0) (m.domains 1) in
        let a : m.by 0 ≡ number 2 = goes_to_one (domain_at q.domains) (set.intersection one_or_two two_or_three) (pos 2) (m.by 0) (λ v. wide_at q.domains v n.wide) two_alone (goes_both (domain_at q.domains) one_or_two two_or_three (m.by 0) (m.domains 0) other) in
        record { by = variable; columns = ap (λ t. two_columns t (number 2)) (sym a) ∙ ap (two_columns (m.by 0)) (sym (sym m.holds.0 ∙ a)) ∙ m.columns; domains = λ v i. absurd i };
  },
  (λ q n m.
      let b : m.by 1 ≡ number 3 = goes_to_one (domain_at q.domains) only_three (pos 3) (m.by 1) (λ v. wide_at q.domains v n.wide) three_alone (m.domains 1) in
      three_is_out (subst (MayGo (domain_at q.domains) (Some one_or_two)) (m.holds.0 ∙ b) (m.domains 0))),
)

-- ===== sets

pub members_hold : MembersHold
members_hold = (
  record {
    row = any_row;
    meets = record { by = variable; columns = refl; domains = λ v. tt; holds = (in_one_or_two (pos 1) true refl, tt) };
    most = λ q n m. record { by = m.by; columns = m.columns; domains = λ v i. any_stays (domain_at q.domains) (m.by v) v };
  },
  (λ q n m. three_is_out m.holds.0),
  (λ q n m. m.holds.0),
  (λ q n m. m.holds.0),
)

pub variables_are_narrowed : VariablesAreNarrowed
variables_are_narrowed = (
  record {
    row = ranged_row;
    meets = record { by = variable; columns = refl; domains = λ v. tt; holds = ((λ n h. h), tt) };
    most = λ q n m. record { by = m.by; columns = m.columns; domains = λ v i. stays_ranged (domain_at q.domains) m.by m.holds.0 v };
  },
  record {
    row = record { canonical = refl; wide = no_domains };
    meets = record { by = λ v. number 2; columns = refl; domains = stays_ranged (domain_at []) (λ v. number 2) (in_one_or_two (pos 2) true refl); holds = (in_pair (pos 2) (pos 3) (pos 2), tt) };
    most = λ q n m.
        let a : m.by 0 ≡ number 2 = goes_to_one (domain_at q.domains) (set.intersection one_or_two two_or_three) (pos 2) (m.by 0) (λ v. wide_at q.domains v n.wide) two_alone (goes_both (domain_at q.domains) one_or_two two_or_three (m.by 0) (m.domains 0) m.holds.0) in
        record { by = variable; columns = ap one_column (sym a) ∙ m.columns; domains = λ v i. absurd i };
  },
  (λ q n m.
      let b : m.by 0 ≡ number 3 = goes_to_one (domain_at q.domains) only_three (pos 3) (m.by 0) (λ v. wide_at q.domains v n.wide) three_alone m.holds.0 in
      three_is_out (subst (MayGo (domain_at q.domains) (Some one_or_two)) b (m.domains 0))),
)
