-- Works that are one are the same by the test.
use Rattle.std.proofs.Common.{◌≡◌, ◌↔◌, Bool, true, false, List, Option, IsTrue, refl, ap, sym, ◌∙◌}
use Rattle.pp_path.specs.declared.levels.Level.{Level}
use Rattle.pp_search.specs.Orders.{are_same}
use Rattle.pp_search.specs.Laws.{same_itself, same_one, no_true, no}

pub same_by : (r : Bool) (a b : Option (List Level)) → (IsTrue r ↔ (a ≡ b)) → r ≡ are_same a b
same_by true a b h = sym (ap (are_same a) (sym (h.0 refl)) ∙ same_itself a)
same_by false a b h = sym (no_true (are_same a b) (λ e. no (h.1 (same_one a b e))))
