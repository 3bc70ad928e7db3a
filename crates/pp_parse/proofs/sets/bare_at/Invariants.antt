use Rattle.pp_parse.proofs.sets.bare_at.Given as goal

abbrev pub ghost-bounds_at : goal.ghost-bounds_at
ghost-bounds_at g a = g.qs
