use Rattle.std.proofs.Common.{drop, ap, ◌∙◌, Some}
use Rattle.pp_language.specs.Fronts.{has_term}
use Rattle.pp_parse.proofs.Seen.{past_end, front_at, got_some, term_of_mark, term_of_term}
use Rattle.pp_parse.proofs.lookahead.term_at.Goals as goal

pub returns-in_err-phrase : goal.returns-in_err-phrase
returns-in_err-phrase g c = rw c.from_residual.ensures (record {
  shows = ap has_term (past_end g.qs c.args.parts.now c.args.at c.requires c.in_err-phrase.ensures.lookup);
  part = tt;
})

pub returns-in-Term : goal.returns-in-Term
returns-in-Term g c = record {
  shows = term_of_term (drop c.args.at g.qs) c.in-Term.phrase (front_at g.qs c.args.parts.now c.args.at c.in_ok-phrase.field-0 _ c.requires c.in_ok-phrase.ensures.lookup c.in-Term.is);
  part = got_some c.args.parts.now c.args.at c.in_ok-phrase.field-0 c.in_ok-phrase.ensures.lookup ∙ ap Some c.in-Term.is;
}

pub returns-in-Mark : goal.returns-in-Mark
returns-in-Mark g c = record {
  shows = term_of_mark (drop c.args.at g.qs) c.in-Mark.field-0 (front_at g.qs c.args.parts.now c.args.at c.in_ok-phrase.field-0 _ c.requires c.in_ok-phrase.ensures.lookup c.in-Mark.is);
  part = tt;
}
