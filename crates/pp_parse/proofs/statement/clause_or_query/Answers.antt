use Rattle.std.proofs.Common.{refl, ap, sym, ◌∙◌}
use Rattle.std.specs.List.{list_all}
use Rattle.pp_parse.proofs.Bounds.{not_marked}
use Rattle.pp_parse.specs.Layouts.{is_query_entry}
use Rattle.pp_parse.proofs.LaidOut.{query_laid, no_query, other_query, clause_alone}
use Rattle.pp_parse.proofs.statement.clause_or_query.Goals as goal

pub returns-then-not-has_mark : goal.returns-then-not-has_mark
returns-then-not-has_mark g c = clause_alone g.qs c.clause.result (not_marked c.has_mark.result c.has_mark.ensures c.if-not-has_mark.true) c.clause.ensures

pub returns-in_default : goal.returns-in_default
returns-in_default g c = no_query g.qs (c.if-not-has_mark.ensures.0 refl) (rw c.in_default.is at c.in_ok-entries.ensures)

pub returns-then-not-are_query_items : goal.returns-then-not-are_query_items
returns-then-not-are_query_items g c = other_query g.qs c.in-Some.entries.items (c.if-not-has_mark.ensures.0 refl) (rw c.in-Some.is at c.in_ok-entries.ensures) (ap (list_all is_query_entry) (sym c.deref.ensures.value) ∙ sym c.if-not-are_query_items.ensures)

pub returns : goal.returns
returns g c = query_laid g.qs c.in-Some.entries (c.if-not-has_mark.ensures.0 refl) (rw c.in-Some.is at c.in_ok-entries.ensures) (ap (list_all is_query_entry) (sym c.deref.ensures.value) ∙ sym c.if-not-are_query_items.ensures)
