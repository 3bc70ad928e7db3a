use Rattle.pp_parse.proofs.sets.bracketed_at.Given as goal

abbrev pub ghost-ranges_at : goal.ghost-ranges_at
ghost-ranges_at g a = g.qs
