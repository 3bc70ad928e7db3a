use Rattle.std.proofs.Common.{drop, sym, ap}
use Rattle.pp_language.specs.Fronts.{mark_in}
use Rattle.pp_parse.proofs.Seen.{past_end, front_at, mark_of_mark, mark_of_term}
use Rattle.pp_parse.proofs.lookahead.mark_at.Goals as goal

pub returns-in_err-kind : goal.returns-in_err-kind
returns-in_err-kind g c = rw c.from_residual.ensures (sym (ap mark_in (past_end g.qs c.args.parts.now c.args.at c.requires c.in_err-kind.ensures.lookup)))

pub returns-in-Mark : goal.returns-in-Mark
returns-in-Mark g c =
    mark_of_mark (drop c.args.at g.qs) c.in-Mark.kind (front_at g.qs c.args.parts.now c.args.at c.in_ok-kind.field-0 _ c.requires c.in_ok-kind.ensures.lookup c.in-Mark.is)

pub returns-in-Term : goal.returns-in-Term
returns-in-Term g c =
    mark_of_term (drop c.args.at g.qs) c.in-Term.field-0 (front_at g.qs c.args.parts.now c.args.at c.in_ok-kind.field-0 _ c.requires c.in_ok-kind.ensures.lookup c.in-Term.is)
