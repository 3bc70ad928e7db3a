-- The worked examples hold.
use Rattle.std.proofs.Common.{◌≡◌, ℕ, ℤ, zero, suc, pos, arith, Option, true, false, Bool, List, [], ◌∷◌, Some, None, refl, ap, sym, ◌∙◌, subst, inl}
use Rattle.std.specs.Prelude.{◌||◌}
use Rattle.std.specs.Ordering.{int_eq}
use Rattle.std.specs.Ordering.{int_cmp, eq_by_cmp}
use Rattle.std.specs.List.{list_any}
use Rattle.std.specs.FinSet as set
use Rattle.std.specs.Cmp.{int_cmp_total}
use Rattle.pp_algebra.specs.Terms.{Tree, variable}
use Rattle.pp_algebra.specs.Rows.{Domain, Domains, domain_at, IsRow}
use Rattle.pp_algebra.specs.Covers.{MayGo}
use Rattle.pp_algebra.specs.Examples.{number, atom_a, atom_b, f_of, one_column, two_columns, row, one_or_two, two_or_three, EqualPairsShare, OtherPairSeparates, IntegerAndAtom, CompoundsShare, NumberedByFirst, TwoVariablesCover, OneVariableDoesNot, MemberIsCovered, OtherIntegerIsNot, AnyIsNot, EquationSolves, CircleHasNone, DomainsMeet}
use Rattle.pp_algebra.proofs.Bools.{int_is}
use Rattle.pp_algebra.proofs.Eliminated.{no_circle}
use Rattle.pp_algebra.proofs.Resume.{wide_at}
use Rattle.pp_algebra.proofs.SetKinds.{in_left, in_right, goes_both, goes_to_one}

abbrev pub only : ℤ → Domain
only n = set.from_list (n ∷ [])

abbrev pub pair : ℤ → ℤ → Domain
pair n m = set.from_list (n ∷ m ∷ [])

both_of : (a b : Bool) → ((a || false) || ((b || false) || false)) ≡ (a || (b || false))
both_of true b = refl
both_of false true = refl
both_of false false = refl

with_first : (a b : Bool) → ((a || (b || false)) || ((a || false) || false)) ≡ (a || (b || false))
with_first true b = refl
with_first false true = refl
with_first false false = refl

with_last : (a b : Bool) → ((a || (b || false)) || ((b || false) || false)) ≡ (a || (b || false))
with_last true b = refl
with_last false true = refl
with_last false false = refl

-- what lies in the union of two lists' sets and the empty set
in_union : (ns ms : List ℤ) (k : ℤ) → set.contains (set.union (set.from_list {R = int_cmp} ns) (set.union (set.from_list ms) set.empty)) k ≡ (set.contains (set.from_list {R = int_cmp} ns) k || (set.contains (set.from_list {R = int_cmp} ms) k || false))
in_union ns ms k =
    set.contains-union int_cmp_total (set.from_list ns) (set.union (set.from_list ms) set.empty) k
    ∙ ap (λ b. set.contains (set.from_list {R = int_cmp} ns) k || b) (set.contains-union int_cmp_total (set.from_list ms) set.empty k ∙ ap (λ b. set.contains (set.from_list {R = int_cmp} ms) k || b) (set.contains-empty int_cmp k))

same : (d e : Domain) → ((n : ℤ) → set.contains d n ≡ set.contains e n) → d ≡ e
same d e h = set.same_set int_cmp_total set.int_cmp-IsAntisymmetric d e h

pub in_only : (n k : ℤ) → set.contains (only n) k ≡ list_any (eq_by_cmp int_cmp k) (n ∷ [])
in_only n k = set.contains-from_list int_cmp_total (n ∷ []) k

pub in_pair : (n m k : ℤ) → set.contains (pair n m) k ≡ list_any (eq_by_cmp int_cmp k) (n ∷ m ∷ [])
in_pair n m k = set.contains-from_list int_cmp_total (n ∷ m ∷ []) k

pub two_make : (n m : ℤ) → set.union (only n) (set.union (only m) set.empty) ≡ pair n m
two_make n m = same _ _ (λ k. in_union (n ∷ []) (m ∷ []) k ∙ rw (in_only n k, in_only m k) (both_of _ _) ∙ sym (in_pair n m k))

first_added : (n m : ℤ) → set.union (pair n m) (set.union (only n) set.empty) ≡ pair n m
first_added n m = same _ _ (λ k. in_union (n ∷ m ∷ []) (n ∷ []) k ∙ rw (in_only n k, in_pair n m k) (with_first _ _) ∙ sym (in_pair n m k))

last_added : (n m : ℤ) → set.union (pair n m) (set.union (only m) set.empty) ≡ pair n m
last_added n m = same _ _ (λ k. in_union (n ∷ m ∷ []) (m ∷ []) k ∙ rw (in_only m k, in_pair n m k) (with_last _ _) ∙ sym (in_pair n m k))

pub equal_pairs_share : EqualPairsShare
equal_pairs_share = ap (λ d. row (two_columns (variable 0) (variable 0)) (Some d ∷ [])) (two_make (pos 1) (pos 2))

pub other_pair_separates : OtherPairSeparates
other_pair_separates =
    ap (λ d. row (two_columns (variable 0) (variable 1)) (Some d ∷ Some (set.union (pair (pos 1) (pos 2)) (set.union (only (pos 2)) set.empty)) ∷ [])) (first_added (pos 1) (pos 2))
    ∙ ap (λ d. row (two_columns (variable 0) (variable 1)) (Some (pair (pos 1) (pos 2)) ∷ Some d ∷ [])) (last_added (pos 1) (pos 2))

pub integer_and_atom : IntegerAndAtom
integer_and_atom = refl

pub compounds_share : CompoundsShare
compounds_share = ap (λ d. row (one_column (f_of (two_columns (variable 0) (variable 0)))) (Some d ∷ [])) (two_make (pos 1) (pos 2))

pub numbered_by_first : NumberedByFirst
numbered_by_first ds = refl

-- what two variables go to
abbrev goes : Tree ℕ → Tree ℕ → ℕ → Tree ℕ
goes t u zero = t
goes t u (suc v) = u

anywhere : {W : Type 0} (es : Domains W) (ds : List (Option Domain)) (v : ℕ) (t : Tree W) → ((w : ℕ) → domain_at ds w ≡ None) → MayGo es (domain_at ds v) t
anywhere es ds v t h = subst (λ o. MayGo es o t) (sym (h v)) tt

two_any : (v : ℕ) → domain_at (None ∷ None ∷ []) v ≡ None
two_any zero = refl
two_any (suc zero) = refl
two_any (suc (suc v)) = refl

pub two_variables_cover : TwoVariablesCover
two_variables_cover = record { by = goes (number 1) atom_a; columns = refl; domains = λ v i. anywhere (domain_at []) (None ∷ None ∷ []) v (goes (number 1) atom_a v) two_any }

pub one_variable_does_not : OneVariableDoesNot
one_variable_does_not c =
    let a : c.by 0 ≡ number 1 = cc c.columns in
    let b : c.by 0 ≡ atom_a = cc c.columns in
    absurd (cc (a, b))

pub in_one_or_two : (k : ℤ) (b : Bool) → list_any (eq_by_cmp int_cmp k) (pos 1 ∷ pos 2 ∷ []) ≡ b → set.contains one_or_two k ≡ b
in_one_or_two k b e = in_pair (pos 1) (pos 2) k ∙ e

pub in_two_or_three : (k : ℤ) (b : Bool) → list_any (eq_by_cmp int_cmp k) (pos 2 ∷ pos 3 ∷ []) ≡ b → set.contains two_or_three k ≡ b
in_two_or_three k b e = in_pair (pos 2) (pos 3) k ∙ e

pub member_is_covered : MemberIsCovered
member_is_covered = record { by = λ v. number 1; columns = refl; domains = λ v i. at v }
  where
    at : (v : ℕ) → MayGo (domain_at []) (domain_at (Some one_or_two ∷ []) v) (number 1)
    at zero = in_one_or_two (pos 1) true refl
    at (suc v) = tt

pub other_integer_is_not : OtherIntegerIsNot
other_integer_is_not c =
    let e : c.by 0 ≡ number 3 = cc c.columns in
    let g : set.contains one_or_two (pos 3) ≡ true = subst (MayGo (domain_at []) (Some one_or_two)) e (c.domains 0 (inl refl)) in
    absurd (cc (g, in_one_or_two (pos 3) false refl))

pub any_is_not : AnyIsNot
any_is_not c =
    let e : c.by 0 ≡ variable 0 = cc c.columns in
    subst (MayGo (domain_at (None ∷ [])) (Some one_or_two)) e (c.domains 0 (inl refl))

no_columns : IsRow (row (two_columns atom_a atom_b) [])
no_columns = record { canonical = refl; wide = λ k e l. absurd (omega (arith, l)) }

pub equation_solves : EquationSolves
equation_solves = record {
  row = no_columns;
  meets = record { by = goes atom_a atom_b; columns = refl; domains = λ v. tt; holds = (refl, tt) };
  most = λ q n m.
      let a : m.by 0 ≡ atom_a = cc m.holds.0 in
      let b : m.by 1 ≡ atom_b = cc m.holds.0 in
      record { by = variable; columns = ap (λ t. two_columns t atom_b) (sym a) ∙ ap (two_columns (m.by 0)) (sym b) ∙ m.columns; domains = λ v i. absurd i };
}

pub circle_has_none : CircleHasNone
circle_has_none q n m = no_circle m.by 0 2 (one_column (variable 0)) (inl refl) m.holds.0

pub two_alone : (k : ℤ) → set.contains (set.intersection one_or_two two_or_three) k ≡ true → k ≡ pos 2
two_alone k h = int_is k (pos 2) (meet (int_eq k (pos 1)) (int_eq k (pos 2)) (int_eq k (pos 3)) refl refl refl (sym (in_pair (pos 1) (pos 2) k) ∙ in_left one_or_two two_or_three k h) (sym (in_pair (pos 2) (pos 3) k) ∙ in_right one_or_two two_or_three k h))
  where
    meet : (a b c : Bool) → int_eq k (pos 1) ≡ a → int_eq k (pos 2) ≡ b → int_eq k (pos 3) ≡ c → (a || (b || false)) ≡ true → (b || (c || false)) ≡ true → b ≡ true
    meet a true c d e f i j = refl
    meet true false true d e f i j = absurd (cc (sym (int_is k (pos 1) d) ∙ int_is k (pos 3) f))
    meet true false false d e f i j = absurd (cc j)
    meet false false c d e f i j = absurd (cc i)

pub domains_meet : DomainsMeet
domains_meet = record {
  row = record { canonical = refl; wide = λ k e l. absurd (omega (arith, l)) };
  meets = record { by = λ v. number 2; columns = refl; domains = λ v. tt; holds = (in_one_or_two (pos 2) true refl, (in_two_or_three (pos 2) true refl, tt)) };
  most = λ q n m.
      let a : m.by 0 ≡ number 2 = goes_to_one (domain_at q.domains) (set.intersection one_or_two two_or_three) (pos 2) (m.by 0) (λ v. wide_at q.domains v n.wide) two_alone (goes_both (domain_at q.domains) one_or_two two_or_three (m.by 0) m.holds.0 m.holds.1.0) in
      record { by = variable; columns = ap one_column (sym a) ∙ m.columns; domains = λ v i. absurd i };
}
