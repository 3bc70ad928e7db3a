-- The values of an argument that is a variable with a finite domain.
use Rattle.std.proofs.Common.{◌≡◌, ℕ, ℤ, zero, suc, ◌<◌, List, [], ◌∷◌, Some, refl, ap, ◌∙◌, arith, inl, inr}
use Rattle.std.specs.List.{slice_get}
use Rattle.pp_algebra.specs.Terms.{Tree, int, node, variable, Trees, none, more, put_all, count}
use Rattle.pp_algebra.specs.Rows.{Domain, Row}
use Rattle.pp_algebra.specs.Least.{first}
use Rattle.pp_algebra.specs.Members.{members, IsInteger}
use Rattle.pp_algebra.specs.Covers.{IsIn}
use Rattle.pp_algebra.proofs.MembersListed.{members-contained}
use Rattle.pp_algebra.specs.Numbered.{counted_from}
use Rattle.pp_sld.specs.Ways.{values_in, values_of}
use Rattle.pp_unify.specs.States.{value_in, in_place, domain_in}
use Rattle.pp_unify.specs.Forests.{counted_all}

values_first : (r : Row) (t : Tree ℕ) (ts : Trees ℕ) → values_of r.domains (more t ts) ≡ values_in (domain_in r t)
values_first r (int n) ts = refl
values_first r (node f us) ts = refl
values_first r (variable v) ts = refl

pub values_are : (r : Row) (n : ℕ) (ts : Trees ℕ) (d : Domain) → 0 < count ts → domain_in r (in_place r (counted_from n (first ts))) ≡ Some d → values_of r.domains (put_all (value_in r) (counted_all n ts)) ≡ members d
values_are r n none d l e = absurd (omega (arith, l))
values_are r n (more t ts) d l e = values_first r (in_place r (counted_from n t)) (put_all (value_in r) (counted_all n ts)) ∙ ap values_in e

value_in_list : (ns : List ℤ) (k : ℕ) (n : ℤ) → slice_get ns k ≡ Some n → IsIn n ns
value_in_list [] k n e = absurd (cc e)
value_in_list (m ∷ ns) zero n e = let f : m ≡ n = cc e in inl f
value_in_list (m ∷ ns) (suc k) n e = inr (value_in_list ns k n e)

pub value_is_integer : (d : Domain) (k : ℕ) (n : ℤ) → slice_get (members d) k ≡ Some n → IsInteger n
value_is_integer d k n e = ((members-contained d n).0 (value_in_list (members d) k n e)).0
