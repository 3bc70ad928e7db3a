use Rattle.std.proofs.lemmas.List.Elements.{All-map}
use Rattle.pp_propagation.specs.Watchers.{HasRoom}
use Rattle.pp_run.proofs.Serving.{made_noted}
use Rattle.pp_run.proofs.command.make.Goals as goal

pub returns-clause-replied : goal.returns-clause-replied
returns-clause-replied g c = c.finish_make.ensures.replied c.in-Ok.program c.args.number _ _ c.in-Ok.ensures.written c.run_by-ran.ensures.run

pub returns-clause-memory : goal.returns-clause-memory
returns-clause-memory g c = λ _. made_noted c.args.command.settings c.in-Ok.program _ _ c.run_by-ran.result (All-map HasRoom _ _ c.requires.room) c.run_by-ran.ensures.run c.run_by-ran.ensures.noted c.args.number c.in-Ok.ensures.written
