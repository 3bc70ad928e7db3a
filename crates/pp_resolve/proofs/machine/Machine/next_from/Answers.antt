use Rattle.std.proofs.Common.{subst}
use Rattle.pp_term.specs.Meanings.{program}
use Rattle.pp_walk.specs.Moves.{IsNext}
use Rattle.pp_resolve.proofs.machine.Machine.next_from.Goals as goal

pub returns : goal.returns
returns c = subst (λ s. IsNext (program s.clauses) s.place.here c.args.from c.next_from.result) c.self.view_is c.next_from.ensures
