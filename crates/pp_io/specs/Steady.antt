-- What a steady source has left, and what a steady sink tells.
use Rattle.std.specs.Prelude.{ℕ, List, ◌++◌, length, Option, None, Some, nat_le, if◌then◌else◌}

-- the bytes still to come, and the most that a call gives
pub record SteadyInput : Type 0 where
  pub left : List ℕ
  pub piece : ℕ

-- the bytes taken so far, as long as they fit the room
pub record SteadyOutput : Type 0 where
  pub told : Option (List ℕ)
  pub room : ℕ

-- the bytes that a sink tells: all of them where they fit, and nothing from then on
abbrev pub fitting : ℕ → List ℕ → Option (List ℕ)
fitting room bytes = if nat_le (length bytes) room then Some bytes else None

-- what it tells once these are appended
abbrev pub told_after : ℕ → Option (List ℕ) → List ℕ → Option (List ℕ)
told_after room None bytes = None
told_after room (Some taken) bytes = fitting room (taken ++ bytes)
