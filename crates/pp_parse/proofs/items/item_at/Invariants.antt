use Rattle.pp_parse.proofs.items.item_at.Given as goal

abbrev pub ghost-has_term : goal.ghost-has_term
ghost-has_term g a = g.qs

abbrev pub ghost-operator_at : goal.ghost-operator_at
ghost-operator_at g a = g.qs

abbrev pub ghost-with_term : goal.ghost-with_term
ghost-with_term g a = g.qs

abbrev pub ghost-member_at : goal.ghost-member_at
ghost-member_at g a = g.qs

abbrev pub ghost-with_callable : goal.ghost-with_callable
ghost-with_callable g a = g.qs

abbrev pub ghost-infer_at : goal.ghost-infer_at
ghost-infer_at g a = g.qs
