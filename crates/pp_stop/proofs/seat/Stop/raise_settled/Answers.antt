use Rattle.std.proofs.Common.{rules}
use Rattle.pp_stop.proofs.Keeps.{raises_settled}
use Rattle.pp_stop.proofs.seat.Stop.raise_settled.Goals as goal

pub fetch_or-requires : goal.fetch_or-requires
fetch_or-requires g c = (search rules, search rules, raises_settled _ _ _)
