use Rattle.pp_parse.proofs.items.mode_at.Given as goal

abbrev pub ghost-atom_at : goal.ghost-atom_at
ghost-atom_at g a = g.qs
