use Rattle.pp_parse.proofs.sets.set_at.Given as goal

abbrev pub ghost-has_mark : goal.ghost-has_mark
ghost-has_mark g a = g.qs

abbrev pub ghost-bracketed_at : goal.ghost-bracketed_at
ghost-bracketed_at g a = g.qs

abbrev pub ghost-bare_at : goal.ghost-bare_at
ghost-bare_at g a = g.qs
