-- The goals that wait for their turn.
use Rattle.std.specs.Prelude.{ℕ, ◌≤◌, List}

-- how many goals there are, and the numbers of those that wait, in the order of their turns
pub record Waiting : Type 0 where
  pub goals : ℕ
  pub waiting : List ℕ

-- goals are numbered from 1
abbrev pub IsGoalOf : ℕ → ℕ → Type 0
IsGoalOf goals k = (1 ≤ k) × (k ≤ goals)
