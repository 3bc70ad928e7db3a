-- A set of two or more has a member.
use Rattle.std.proofs.Common.{◌≡◌, ℤ, ◌≤◌, Bool, true, false, List, [], ◌∷◌, refl, ap, sym, ◌∙◌, arith}
use Rattle.std.specs.FinSet as set
use Rattle.std.specs.Ordering.{int_cmp}
use Rattle.std.specs.List.{list_any}
use Rattle.std.specs.Ordering.{eq_by_cmp}
use Rattle.std.proofs.Common.{Ordering, Less, Equal, Greater}
use Rattle.std.specs.Prelude.{◌||◌}
use Rattle.std.specs.Cmp.{int_cmp_is}
use Rattle.std.proofs.lemmas.Cmp.{int_cmp_total}
use Rattle.pp_algebra.specs.Rows.{Domain}

abbrev eq_of : Ordering → Bool
eq_of Less = false
eq_of Equal = true
eq_of Greater = false

pub some_in : (d : Domain) → 1 ≤ set.len d → (n : ℤ) × (set.contains d n ≡ true)
some_in d h = go (set.items d) refl
  where
    go : (ns : List ℤ) → set.items d ≡ ns → (n : ℤ) × (set.contains d n ≡ true)
    go [] e = (let m : d ≡ set.empty = set.same_set int_cmp_total set.int_cmp-IsAntisymmetric d set.empty (λ q. set.contains-items d q ∙ ap (list_any (eq_by_cmp int_cmp q)) e ∙ sym (set.contains-empty int_cmp q)) in absurd (omega (arith, h, ap set.len m ∙ set.len-empty int_cmp)))
    go (n ∷ ns) e = (n, set.contains-items d n ∙ ap (list_any (eq_by_cmp int_cmp n)) e ∙ ap (λ o. eq_of o || list_any (eq_by_cmp int_cmp n) ns) (sym (int_cmp_is n n Equal refl)))

pub members : (d : Domain) → 2 ≤ set.len d → (n : ℤ) × (set.contains d n ≡ true)
members d h = some_in d (omega (arith, h))
