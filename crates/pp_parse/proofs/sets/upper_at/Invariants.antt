use Rattle.pp_parse.proofs.sets.upper_at.Given as goal

abbrev pub ghost-has_mark : goal.ghost-has_mark
ghost-has_mark g a = g.qs

abbrev pub ghost-integer_at : goal.ghost-integer_at
ghost-integer_at g a = g.qs
