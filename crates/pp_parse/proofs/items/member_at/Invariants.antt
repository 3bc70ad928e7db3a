use Rattle.pp_parse.proofs.items.member_at.Given as goal

abbrev pub ghost-set_at : goal.ghost-set_at
ghost-set_at g a = g.qs
