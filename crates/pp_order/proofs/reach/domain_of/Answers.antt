use Rattle.std.proofs.Common.{arith, ap, ◌∙◌, sym}
use Rattle.pp_algebra.specs.Rows.{domain_at}
use Rattle.pp_row.specs.Columns.{set_by, sets_of}
use Rattle.pp_row.proofs.DomainLists.{at_within, at_past}
use Rattle.pp_order.proofs.Reaching.{behind}
use Rattle.pp_order.proofs.reach.domain_of.Goals as goal

pub returns-in-Some : goal.returns-in-Some
returns-in-Some c =
    let g = c.in-Some.ensures.lookup in
    behind c.as_ref.result c.in-Some.domain.now (domain_at (sets_of c.args.domains.now) c.args.variable) c.as_ref.ensures.value (at_within c.args.domains.now c.args.variable c.in-Some.domain.now (omega arith) ∙ ap set_by (sym g.1))

pub returns-in-None : goal.returns-in-None
returns-in-None c = at_past c.args.domains.now c.args.variable (omega (arith, c.in-None.ensures.lookup))
