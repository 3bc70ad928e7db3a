use Rattle.std.proofs.Common.{sym}
use Rattle.pp_parse.proofs.FoundItems.{with_term}
use Rattle.pp_parse.proofs.items.with_term.Goals as goal

pub returns-then-has_term : goal.returns-then-has_term
returns-then-has_term g c = with_term g.qs c.args.at c.args.entry (sym c.if-has_term.ensures)
