use Rattle.std.proofs.Common.{rules}
use Rattle.pp_stop.proofs.Keeps.{raises_dry}
use Rattle.pp_stop.proofs.seat.Stop.raise_dry.Goals as goal

pub fetch_or-requires : goal.fetch_or-requires
fetch_or-requires c = (search rules, search rules, raises_dry _ _ _)
