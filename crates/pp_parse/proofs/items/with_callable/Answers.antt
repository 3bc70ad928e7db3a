use Rattle.std.proofs.Common.{sym}
use Rattle.pp_parse.proofs.FoundItems.{with_callable}
use Rattle.pp_parse.proofs.items.with_callable.Goals as goal

pub returns-then-has_callable : goal.returns-then-has_callable
returns-then-has_callable g c = with_callable g.qs c.args.at c.args.entry (sym c.if-has_callable.ensures)
