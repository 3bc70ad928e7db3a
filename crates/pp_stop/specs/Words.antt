-- The stop word as two bits, and what a load of it answers.
use Rattle.std.specs.Prelude.{ℕ, ◌+◌, ◌==◌, Bool, cond}
use Rattle.pp_stop.specs.declared.up.Up.{Up}
use Rattle.pp_stop.specs.declared.up.Up.TheVariants.{No, Settled, Dry}

-- the word with these bits
abbrev pub word_of : Bool → Bool → ℕ
word_of settled dry = cond settled 1 0 + cond dry 2 0

-- what a load that saw these bits answers
abbrev pub up_of : Bool → Bool → Up
up_of settled dry = cond settled Settled (cond dry Dry No)

-- what the word stands for
abbrev pub read_up : ℕ → Up
read_up n = cond (n == 0) No (cond (n == 2) Dry Settled)
