use Rattle.std.proofs.Common.{rules}
use Rattle.pp_turn.proofs.Joins.{joins, compares}
use Rattle.pp_turn.proofs.seat.Turn.join_seat.Goals as goal

pub join_seat-requires : goal.join_seat-requires
join_seat-requires g c = (search rules, search rules, search rules, search rules, joins _ _ _ _ _ _ _ _ (search rules) (search rules) (search rules) (search rules) (search rules) (search rules) (search rules))

pub load-requires : goal.load-requires
load-requires g c = (search rules, search rules, compares _ _ _ _ _ _ _ (search rules) (search rules) (search rules))
