use Rattle.std.proofs.Common.{subst}
use Rattle.pp_term.specs.Meanings.{program}
use Rattle.pp_walk.specs.Moves.{IsNextPlace}
use Rattle.pp_resolve.proofs.machine.Machine.place_from.Goals as goal

pub returns : goal.returns
returns c = subst (λ s. IsNextPlace (program s.clauses) s.place.here c.args.from c.place_from.result) c.self.view_is c.place_from.ensures
