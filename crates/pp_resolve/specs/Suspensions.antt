-- Goals that are suspended, and the places of those that were done since.
use Rattle.std.specs.Prelude.{◌≡◌, ℕ, ◌≤◌, Bool, true, false, cond, nat_eq, List, [], ◌∷◌, length, Some}
use Rattle.std.specs.List.{slice_get}
use Rattle.pp_resolve.specs.declared.suspended.Suspended.{Suspended}

-- the number is one of these
abbrev pub is_among : ℕ → List ℕ → Bool
is_among n [] = false
is_among n (d ∷ ds) = cond (nat_eq n d) true (is_among n ds)

-- each place that is done stands where its entry says
pub record AreOrdered (s : Suspended) : Type 0 where
  pub room : length s.goals.items ≤ length s.order.items
  pub places : (k d : ℕ) → slice_get s.done.items k ≡ Some d → slice_get s.order.items d ≡ Some k
