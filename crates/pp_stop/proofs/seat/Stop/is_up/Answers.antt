use Rattle.std.proofs.Common.{rules}
use Rattle.pp_stop.proofs.Keeps.{loads}
use Rattle.pp_stop.proofs.seat.Stop.is_up.Goals as goal

pub load-requires : goal.load-requires
load-requires c = (search rules, search rules, loads _ _ _)
