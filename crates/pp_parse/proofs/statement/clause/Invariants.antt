use Rattle.pp_parse.proofs.statement.clause.Given as goal

abbrev pub ghost-is_head : goal.ghost-is_head
ghost-is_head g a = g.qs

abbrev pub ghost-has_mark : goal.ghost-has_mark
ghost-has_mark g a = g.qs

abbrev pub ghost-items : goal.ghost-items
ghost-items g a = g.qs
