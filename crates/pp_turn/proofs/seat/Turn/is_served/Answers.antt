use Rattle.std.proofs.Common.{rules}
use Rattle.pp_turn.proofs.Keeps.{looks}
use Rattle.pp_turn.proofs.seat.Turn.is_served.Goals as goal

pub load-requires : goal.load-requires
load-requires g c = let q = c.requires in (search rules, search rules, looks _ _ _ _ _ _ _ c.args.ticket q.1 q.2.0 q.2.1 q.2.2)
