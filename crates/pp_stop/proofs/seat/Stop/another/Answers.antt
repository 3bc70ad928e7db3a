use Rattle.std.proofs.Common.{rules}
use Rattle.pp_stop.proofs.Keeps.{splits}
use Rattle.pp_stop.proofs.seat.Stop.another.Goals as goal

pub split_seat-requires : goal.split_seat-requires
split_seat-requires c = (search rules, search rules, splits _ _)
