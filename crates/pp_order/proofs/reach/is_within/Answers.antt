use Rattle.pp_algebra.specs.Rows.{domain_at}
use Rattle.pp_domain.specs.Sets.{set_of}
use Rattle.pp_row.specs.Columns.{sets_of}
use Rattle.pp_order.proofs.Reaching.{within_told}
use Rattle.pp_order.proofs.reach.is_within.Goals as goal

pub returns-in-Some : goal.returns-in-Some
returns-in-Some c = within_told c.inside.result (set_of c.args.domain.now) (set_of c.in-Some.other.now) (domain_at (sets_of c.args.domains.now) c.args.variable) c.in-Some.ensures c.inside.ensures
