use Rattle.std.proofs.Common.{arith}
use Rattle.std.proofs.lemmas.Int.{ints}
use Rattle.pp_domain.proofs.Members.{count_is}
use Rattle.pp_domain.proofs.counts.count_of.Goals as goal

pub returns : goal.returns
returns c = let e = count_is c.args.low c.args.high c.requires.some in omega (arith, ints, e)
