use Rattle.std.proofs.Common.{[], Some}
use Rattle.pp_turn.specs.Seats.{Rests}
use Rattle.pp_shared_tests.proofs.Seats.{popped}
use Rattle.pp_shared_tests.proofs.turns.last_seat.Goals as goal

pub returns-clause-seats : goal.returns-clause-seats
returns-clause-seats c = (popped (λ i s. Rests c.args.turn.now (Some 7) i 1 [] s) _ _ _ c.pop.ensures.items c.requires).0

pub returns-clause-last : goal.returns-clause-last
returns-clause-last c = (popped (λ i s. Rests c.args.turn.now (Some 7) i 1 [] s) _ _ _ c.pop.ensures.items c.requires).1
