use Rattle.std.proofs.Common.{subst}
use Rattle.std.proofs.lemmas.Result.{IfOk-weaker}
use Rattle.pp_term.specs.Meanings.{program}
use Rattle.pp_walk.specs.Moves.{Stepped}
use Rattle.pp_resolve.specs.Engines.{place_of}
use Rattle.pp_resolve.proofs.machine.Machine.step.Goals as goal

pub returns-clause-stepped : goal.returns-clause-stepped
returns-clause-stepped g c =
    let old = c.self.inside.engine in
    let new = c.step.new.self in
    IfOk-weaker c.step.result (λ x. Stepped (program old.clauses.now) (place_of old) x (place_of new)) (λ x. Stepped (program c.args.self.now.clauses) c.args.self.now.place x (place_of new)) (λ x h. subst (λ s. Stepped (program s.clauses) s.place x (place_of new)) c.self.view_is h) c.step.ensures.stepped
