use Rattle.std.proofs.Common.{rules}
use Rattle.pp_turn.proofs.Keeps.{opens}
use Rattle.pp_turn.proofs.seat.Turn.open.Goals as goal

pub new-requires : goal.new-requires
new-requires g c = let r = c.requires in rw (c.in_ok-slots.ensures.ok, c.of.ensures) (opens _ _ _ c.args.seats c.args.value (search rules) (search rules) r.log)
