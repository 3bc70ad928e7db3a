use Rattle.std.proofs.Common.{sym}
use Rattle.pp_domain.specs.Sets.{set_of}
use Rattle.pp_order.proofs.Reaching.{within_told}
use Rattle.pp_unify.specs.Covering.{domains_now}
use Rattle.pp_unify.proofs.cover.is_within.Goals as goal

pub returns-in-Some : goal.returns-in-Some
returns-in-Some c = (within_told c.inside.result (set_of c.args.domain.now) (set_of c.in-Some.other.now) (domains_now c.args.state.now c.args.free) (sym c.in-Some.ensures) c.inside.ensures).0
