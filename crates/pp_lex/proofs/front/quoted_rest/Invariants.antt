use Rattle.pp_lex.proofs.Quotes.{QuotedTo}
use Rattle.pp_lex.proofs.front.quoted_rest.Given as goal

abbrev pub invariant-loop-at : goal.invariant-loop-at
invariant-loop-at l = QuotedTo l.rest l.is_open l.size l.at
