use Rattle.std.proofs.Common.{rules}
use Rattle.pp_turn.proofs.Keeps.{splits}
use Rattle.pp_turn.proofs.seat.Turn.another.Goals as goal

pub split_seat-requires : goal.split_seat-requires
split_seat-requires g c = (search rules, search rules, splits _ _ _ _ _ _ (search rules) (search rules) (search rules))
