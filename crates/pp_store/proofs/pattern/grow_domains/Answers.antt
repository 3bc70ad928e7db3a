use Rattle.std.proofs.Common.{arith}
use Rattle.pp_store.proofs.Opening.{longer_by_one}
use Rattle.pp_store.proofs.pattern.grow_domains.Goals as goal

pub loop-domains-preserved : goal.loop-domains-preserved
loop-domains-preserved c = record {
  longer = longer_by_one c.args.domains.now.items c.loop-domains.domains.items c.push.new.self.items c.loop-domains.invariant.longer c.in_ok-push.ensures.items;
  least = λ l. omega (arith, c.loop-domains-test.true, c.in_ok-push.ensures.len, c.len.ensures);
}
