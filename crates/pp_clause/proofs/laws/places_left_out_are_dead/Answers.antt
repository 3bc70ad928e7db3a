use Rattle.pp_clause.proofs.Dead.{left_out_are_dead}
use Rattle.pp_clause.proofs.laws.places_left_out_are_dead.Goals as goal

pub returns : goal.returns
returns c = left_out_are_dead
