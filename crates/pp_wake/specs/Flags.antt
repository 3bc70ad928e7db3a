-- When a queue of goals and a flag for each goal say the same.
use Rattle.std.specs.Prelude.{◌≡◌, ℕ, suc, ◌<◌, ◌≤◌, Bool, false, nat_eq, List, All, length, get_or}
use Rattle.std.specs.List.{count_by}
use Rattle.pp_algebra.specs.Canon.{has, Distinct}
use Rattle.pp_wake.specs.Waiting.{IsGoalOf}

-- the flag of goal k + 1 is the k-th, and the queue of this length has room for all goals
pub record Agree (flags : List Bool) (queue : List ℕ) (len room : ℕ) : Type 0 where
  pub goals : All (IsGoalOf (length flags)) queue
  pub distinct : Distinct nat_eq queue
  pub flag : (k : ℕ) → k < length flags → get_or flags k false ≡ has nat_eq queue (suc k)
  pub counted : len ≡ count_by (λ b. b) flags
  pub has_room : length flags ≤ room
