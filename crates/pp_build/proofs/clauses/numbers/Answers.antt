use Rattle.std.proofs.Common.{arith}
use Rattle.pp_parse.proofs.NamePlaces.{number_on}
use Rattle.pp_build.proofs.clauses.numbers.Goals as goal

pub loop-i-preserved : goal.loop-i-preserved
loop-i-preserved c =
    number_on c.args.names.now c.args.texts.now c.loop-i.i c.text.result.now c.find.result c.unwrap.result c.loop-i.numbers.items c.push.new.self.items (omega (arith, c.len-i-end.ensures.len)) c.text.ensures c.unwrap.ensures c.find.ensures c.in_ok-push.ensures.items c.loop-i.invariant
