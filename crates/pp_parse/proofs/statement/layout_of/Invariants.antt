use Rattle.pp_parse.proofs.SentenceParts.{parts_in}
use Rattle.pp_parse.proofs.statement.layout_of.Given as goal

abbrev pub ghost-clause_or_query : goal.ghost-clause_or_query
ghost-clause_or_query a = parts_in a.text.now a.tokens.now
