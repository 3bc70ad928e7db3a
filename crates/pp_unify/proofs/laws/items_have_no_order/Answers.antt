use Rattle.pp_unify.proofs.Turns.{solved_in_turn, solved_in_any_turn}
use Rattle.pp_unify.proofs.laws.items_have_no_order.Goals as goal

pub returns-clause-in_turn : goal.returns-clause-in_turn
returns-clause-in_turn c = solved_in_turn

pub returns-clause-any_turn : goal.returns-clause-any_turn
returns-clause-any_turn c = solved_in_any_turn
