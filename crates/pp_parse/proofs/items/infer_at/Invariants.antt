use Rattle.pp_parse.proofs.items.infer_at.Given as goal

abbrev pub ghost-has_callable : goal.ghost-has_callable
ghost-has_callable g a = g.qs

abbrev pub ghost-mode_at : goal.ghost-mode_at
ghost-mode_at g a = g.qs
