-- Heights of numbers, and the greatest height among numbers that follow one another.
use Rattle.std.specs.Prelude.{ℕ, zero, suc, ◌+◌, ◌*◌, ◌%◌, ◌-◌, max, min, Bool, nat_le}

abbrev pub height_of : ℕ → ℕ
height_of i = (i * 7919) % 1000003

-- the greatest height of so many numbers from this one on
abbrev pub greatest : ℕ → ℕ → ℕ
greatest low zero = 0
greatest low (suc n) = max (height_of low) (greatest (low + 1) n)

-- the greatest height of the numbers from the first one on and below the second
abbrev pub between : ℕ → ℕ → ℕ
between low high = greatest low (high - low)

-- nothing that is higher makes a difference
abbrev pub is_settled : ℕ → Bool
is_settled v = nat_le 1000000 v

abbrev pub outcome_of : ℕ → ℕ
outcome_of v = min v 1000000
