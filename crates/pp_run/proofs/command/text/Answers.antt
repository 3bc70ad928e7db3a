use Rattle.std.proofs.Common.{refl, ap, map}
use Rattle.std.proofs.lemmas.List.Elements.{All-map}
use Rattle.pp_propagation.specs.Watchers.{HasRoom}
use Rattle.pp_run.proofs.Serving.{refused_replied, given_answered, given_noted}
use Rattle.pp_run.proofs.command.text.Goals as goal

pub returns-in-Err-clause-replied : goal.returns-in-Err-clause-replied
returns-in-Err-clause-replied g c = refused_replied c.args.command.settings c.args.command.trace _ _ _ c.in-Err.status _ c.in-Err.ensures.refused

pub returns-clause-replied : goal.returns-clause-replied
returns-clause-replied g c =
    let p = c.in-Ok.program in
    given_answered c.args.command.settings c.args.command.trace p _ _ _ (ap (map _) c.deref.ensures.value) _ _ _ _ _ (ap g.K.Sink.taken c.in-Ok.ensures.unwritten) _ c.run_by-ran.result c.in-Ok.ensures.given c.run_by-ran.ensures.run
    (λ text writes small ran. c.finish_text.ensures.replied p text _ refl refl writes small ran)

pub returns-clause-memory : goal.returns-clause-memory
returns-clause-memory g c = λ _. given_noted c.args.command.settings c.in-Ok.program _ _ c.run_by-ran.result (All-map HasRoom _ _ c.requires.room) c.run_by-ran.ensures.run c.run_by-ran.ensures.noted _ _ c.in-Ok.ensures.given
