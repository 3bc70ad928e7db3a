-- Seats that wait for no turn.
use Rattle.std.specs.Prelude.{◌≡◌, false}
use Rattle.pp_turn.specs.declared.seat.PlainSeat.{PlainSeat}
use Rattle.pp_turn.specs.Locks.{Lock}
use Rattle.pp_turn.specs.Seats.{IsSeatOf, is_in_turn}

-- a seat of this lock that is not in its turn
abbrev pub IsAtRest : {T L B : Type 0} → Lock → PlainSeat T L B → Type 0
IsAtRest lock s = IsSeatOf lock s × (is_in_turn s ≡ false)
