use Rattle.std.proofs.Common.{◌∷◌, [], length, ap, arith, length-append}
use Rattle.pp_clause.proofs.Tables.{adds_one}
use Rattle.pp_clause.proofs.clauses.make_groups.Goals as goal

pub loop-preserved : goal.loop-preserved
loop-preserved c =
    let gs = c.loop.groups.items in
    let e = c.in_ok-push.ensures.items in
    record {
      added = adds_one c.args.groups.now.items gs c.push.new.self.items c.new.result c.loop.invariant.added e c.new.ensures;
      counted = omega (arith, ap length e, length-append gs (c.new.result ∷ []), c.loop.invariant.counted);
    }
