use Rattle.pp_parse.proofs.items.with_callable.Given as goal

abbrev pub ghost-has_callable : goal.ghost-has_callable
ghost-has_callable g a = g.qs
