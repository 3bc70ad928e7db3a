use Rattle.pp_parse.proofs.items.with_term.Given as goal

abbrev pub ghost-has_term : goal.ghost-has_term
ghost-has_term g a = g.qs
