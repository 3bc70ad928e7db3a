use Rattle.std.specs.Prelude.{string_bytes}
use Rattle.propia.proofs.Handed.{for_ok, handed}
use Rattle.propia.proofs.serve.served.Goals as goal

pub returns-in-Ok-clause-handed : goal.returns-in-Ok-clause-handed
returns-in-Ok-clause-handed g c =
    for_ok _ _ c.in-Ok.words c.in-Ok.is
    (handed string_bytes (g.S.Source.left c.args.source.now) (g.K.Sink.taken c.args.sink.now) _ c.watched.result c.after_name.result.now c.deref.result.now _ c.after_name.ensures c.deref.ensures.value c.watched.ensures.served)
