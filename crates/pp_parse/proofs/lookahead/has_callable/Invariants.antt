use Rattle.pp_parse.proofs.lookahead.has_callable.Given as goal

abbrev pub ghost-term_at : goal.ghost-term_at
ghost-term_at g a = g.qs
