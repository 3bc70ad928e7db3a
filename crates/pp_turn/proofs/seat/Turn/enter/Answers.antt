use Rattle.std.proofs.Common.{rules, Some, refl}
use Rattle.pp_turn.proofs.Keeps.{draws}
use Rattle.pp_turn.proofs.seat.Turn.enter.Goals as goal

pub fetch_add-ticket-requires : goal.fetch_add-ticket-requires
fetch_add-ticket-requires g c = (search rules, search rules, draws _ _ _ _ _ _ _ (search rules) (search rules) (search rules))

pub exchange-requires : goal.exchange-requires
exchange-requires g c = let s = c.wait.ensures.1 in (search rules, (Some s.0, rw s.4 refl))
