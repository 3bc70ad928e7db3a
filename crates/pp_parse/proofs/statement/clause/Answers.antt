use Rattle.std.proofs.Common.{refl, ap, sym, ◌∙◌}
use Rattle.std.specs.List.{list_all}
use Rattle.pp_parse.proofs.Bounds.{seen_length, not_marked}
use Rattle.pp_parse.specs.Layouts.{is_body_entry}
use Rattle.pp_parse.proofs.LaidOut.{no_head, fact_laid, rule_laid, no_neck, no_body, other_body}
use Rattle.pp_parse.proofs.statement.clause.Goals as goal

pub returns-then-not-is_head : goal.returns-then-not-is_head
returns-then-not-is_head g c = no_head g.qs (sym c.if-not-is_head.ensures)

pub returns-then-parts-eq1 : goal.returns-then-parts-eq1
returns-then-parts-eq1 g c = fact_laid g.qs c.new.result c.requires.1.0 (sym c.if-not-is_head.ensures) (sym (seen_length g.qs c.args.parts.now c.requires.0) ∙ c.if-parts-eq1.true) c.new.ensures.items

pub returns-then-not-has_mark : goal.returns-then-not-has_mark
returns-then-not-has_mark g c =
    no_neck g.qs (λ e. c.if-parts-eq1.false (seen_length g.qs c.args.parts.now c.requires.0 ∙ e)) (not_marked c.has_mark.result c.has_mark.ensures c.if-not-has_mark.true)

pub returns-in_default : goal.returns-in_default
returns-in_default g c =
    no_body g.qs (λ e. c.if-parts-eq1.false (seen_length g.qs c.args.parts.now c.requires.0 ∙ e)) (rw c.in_default.is at c.in_ok-entries.ensures)

pub returns-then-not-are_body_items : goal.returns-then-not-are_body_items
returns-then-not-are_body_items g c =
    other_body g.qs c.in-Some.entries.items (λ e. c.if-parts-eq1.false (seen_length g.qs c.args.parts.now c.requires.0 ∙ e)) (rw c.in-Some.is at c.in_ok-entries.ensures) (ap (list_all is_body_entry) (sym c.deref.ensures.value) ∙ sym c.if-not-are_body_items.ensures)

pub returns : goal.returns
returns g c =
    rule_laid g.qs c.in-Some.entries c.requires.1.0 (sym c.if-not-is_head.ensures) (c.if-not-has_mark.ensures.0 refl) (rw c.in-Some.is at c.in_ok-entries.ensures) (ap (list_all is_body_entry) (sym c.deref.ensures.value) ∙ sym c.if-not-are_body_items.ensures)
