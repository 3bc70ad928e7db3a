use Rattle.pp_parse.proofs.items.operator_at.Given as goal

abbrev pub ghost-mark_at : goal.ghost-mark_at
ghost-mark_at g a = g.qs
