-- What a seat is seen as: its lock, its base, its numbers, the log that it has seen, and whether it is in its turn.
use Rattle.std.specs.Prelude.{◌≡◌, ℕ, Bool, false, List, [], Option, Some, slice_get}
use Rattle.pp_turn.specs.declared.seat.PlainSeat.{PlainSeat}
use Rattle.pp_turn.specs.Locks.{Lock}
use Rattle.atomic_table.specs.Seated.{TableId}

module _ {T L B : Type 0} where
  -- the lock that it is of
  abbrev pub seat_turn : PlainSeat T L B → TableId
  seat_turn s = s.seat.table_id

  abbrev pub IsSeatOf : Lock → PlainSeat T L B → Type 0
  IsSeatOf lock s = seat_turn s ≡ lock.0

  abbrev pub seat_base : PlainSeat T L B → Option B
  seat_base s = s.seat.me.0.base

  -- the first number of its span
  abbrev pub seat_number : PlainSeat T L B → ℕ
  seat_number s = s.seat.me.0.number

  -- how many numbers its span has
  abbrev pub seat_span : PlainSeat T L B → ℕ
  seat_span s = s.seat.me.0.span

  -- the log that it last saw
  abbrev pub seen : PlainSeat T L B → List L
  seen s = s.seat.me.0.seen

  abbrev pub is_in_turn : PlainSeat T L B → Bool
  is_in_turn s = s.seat.me.0.in_turn

  -- in its turn, the log of the value that it was given
  abbrev pub kept : PlainSeat T L B → List L
  kept s = s.seat.me.0.kept

  -- the same lock, base and numbers
  pub record SameSeat (s t : PlainSeat T L B) : Type 0 where
    pub turn : seat_turn t ≡ seat_turn s
    pub base : seat_base t ≡ seat_base s
    pub number : seat_number t ≡ seat_number s
    pub span : seat_span t ≡ seat_span s

  -- a seat of this lock that is not in its turn, with this base, these numbers and this log seen
  pub record Rests (lock : Lock) (b : Option B) (first many : ℕ) (log : List L) (s : PlainSeat T L B) : Type 0 where
    pub turn : IsSeatOf lock s
    pub base : seat_base s ≡ b
    pub number : seat_number s ≡ first
    pub span : seat_span s ≡ many
    pub seen : seen s ≡ log
    pub out : is_in_turn s ≡ false

  -- the seats of a new lock: one number each, from 0 on, and no entry seen
  abbrev pub AreSeats : Lock → B → List (PlainSeat T L B) → Type 0
  AreSeats lock b seats = (i : ℕ) (s : PlainSeat T L B) → slice_get seats i ≡ Some s → Rests lock (Some b) i 1 [] s
