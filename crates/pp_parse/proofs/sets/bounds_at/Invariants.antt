use Rattle.pp_parse.proofs.sets.bounds_at.Given as goal

abbrev pub ghost-integer_at : goal.ghost-integer_at
ghost-integer_at g a = g.qs

abbrev pub ghost-upper_at : goal.ghost-upper_at
ghost-upper_at g a = g.qs
