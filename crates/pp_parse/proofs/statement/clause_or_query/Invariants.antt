use Rattle.pp_parse.proofs.statement.clause_or_query.Given as goal

abbrev pub ghost-has_mark : goal.ghost-has_mark
ghost-has_mark g a = g.qs

abbrev pub ghost-clause : goal.ghost-clause
ghost-clause g a = g.qs

abbrev pub ghost-items : goal.ghost-items
ghost-items g a = g.qs
