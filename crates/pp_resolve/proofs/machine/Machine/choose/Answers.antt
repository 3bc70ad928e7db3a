use Rattle.std.proofs.Common.{sym, subst}
use Rattle.pp_term.specs.Meanings.{program}
use Rattle.pp_walk.specs.Moves.{HasChoice}
use Rattle.pp_resolve.proofs.machine.Machine.choose.Goals as goal

pub choose-requires-clause-choice : goal.choose-requires-clause-choice
choose-requires-clause-choice g c = subst (λ s. HasChoice (program s.clauses) s.place.here c.args.at) (sym c.self.view_is) c.requires.choice
