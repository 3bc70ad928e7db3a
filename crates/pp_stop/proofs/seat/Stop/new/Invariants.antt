use Rattle.std.proofs.Common.{◌≡◌, ◌≤◌, All, vec_len, vec_capacity, ◌+◌}
use Rattle.pp_stop.specs.Seats.{IsNew}
use Rattle.pp_stop.proofs.seat.Stop.new.Given as goal

abbrev pub invariant-loop-made : goal.invariant-loop-made
invariant-loop-made l = (vec_len l.all + 1 ≡ l.made) × (l.seats ≤ vec_capacity l.all) × All (IsNew l.stop) l.all.items × IsNew l.stop l.first
