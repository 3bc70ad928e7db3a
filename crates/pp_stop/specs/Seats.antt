-- What a seat at a stop word is seen as: its word, the bits that it has seen, and how often it looked.
use Rattle.std.specs.Prelude.{◌≡◌, ℕ, Bool, true}
use Rattle.pp_stop.specs.declared.seat.Stop.{Stop}
use Rattle.pp_stop.specs.declared.seat.StopSeat.{StopSeat}
use Rattle.pp_stop.specs.declared.view.View.{View}
use Rattle.pp_stop.specs.Views.{blank, has_any}
use Rattle.atomic_table.specs.Seated.{TableId}

abbrev pub stop_id : Stop → TableId
stop_id stop = stop.table.shared.table_id

abbrev pub IsSeatOf : Stop → StopSeat → Type 0
IsSeatOf stop s = s.seat.table_id ≡ stop_id stop

abbrev pub seat_view : StopSeat → View
seat_view s = s.seat.me.0

abbrev pub saw_settled : StopSeat → Bool
saw_settled s = (seat_view s).settled

abbrev pub saw_dry : StopSeat → Bool
saw_dry s = (seat_view s).dry

-- it has seen a bit
abbrev pub has_seen : StopSeat → Bool
has_seen s = has_any (seat_view s)

-- how many loads it made
abbrev pub loads : StopSeat → ℕ
loads s = (seat_view s).loads

-- how many of them when it had seen a bit already
abbrev pub late : StopSeat → ℕ
late s = (seat_view s).late

-- what the first has seen the second has
abbrev pub StillSeen : StopSeat → StopSeat → Type 0
StillSeen s t = (saw_settled s ≡ true → saw_settled t ≡ true) × (saw_dry s ≡ true → saw_dry t ≡ true)

abbrev pub SameLoads : StopSeat → StopSeat → Type 0
SameLoads s t = (loads t ≡ loads s) × (late t ≡ late s)

-- a seat of this word that has seen nothing and made no load
abbrev pub IsNew : Stop → StopSeat → Type 0
IsNew stop s = IsSeatOf stop s × (seat_view s ≡ blank)
