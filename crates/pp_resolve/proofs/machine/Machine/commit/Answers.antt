use Rattle.std.proofs.Common.{sym, subst}
use Rattle.pp_term.specs.Meanings.{program}
use Rattle.pp_walk.specs.Moves.{HasChoice}
use Rattle.pp_resolve.proofs.machine.Machine.commit.Goals as goal

pub commit-requires-clause-choice : goal.commit-requires-clause-choice
commit-requires-clause-choice g c = subst (λ s. HasChoice (program s.clauses) s.place.here c.args.at) (sym c.self.view_is) c.requires.choice
