use Rattle.std.proofs.Common.{rules}
use Rattle.pp_turn.proofs.Keeps.{passes}
use Rattle.pp_turn.proofs.seat.Turn.leave.Goals as goal

pub fetch_add-requires : goal.fetch_add-requires
fetch_add-requires g c = (search rules, search rules, passes _ _ _ _ _ _ _ c.args.value (search rules) (search rules) (search rules) (search rules) (search rules) (search rules))
