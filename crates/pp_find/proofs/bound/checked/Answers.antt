use Rattle.std.proofs.Common.{◌≡◌, rules, length, ap, sym, ◌∙◌}
use Rattle.pp_algebra.specs.Terms.{count}
use Rattle.pp_find.proofs.bound.checked.Goals as goal
use Rattle.pp_row.proofs.ColumnLists.{count-trees_of}

width : (c : goal.Else-branch) → count c.args.candidate.columns ≡ count c.args.call.now.columns
width c =
    let lengths : length c.columns.result.now ≡ length c.columns-2.result.now = search rules in
    ap count (sym c.columns.ensures.columns) ∙ count-trees_of c.columns.result.now ∙ lengths ∙ sym (count-trees_of c.columns-2.result.now) ∙ ap count c.columns-2.ensures.columns

pub covers-requires : goal.covers-requires
covers-requires c =
    let lengths : length c.columns.result.now ≡ length c.columns-2.result.now = search rules in
    record { same_width = ap count (sym c.columns.ensures.columns) ∙ count-trees_of c.columns.result.now ∙ lengths ∙ sym (count-trees_of c.columns-2.result.now) ∙ ap count c.columns-2.ensures.columns ∙ sym c.requires.width }

pub covers-requires-2 : goal.covers-requires-2
covers-requires-2 c =
    let lengths : length c.columns.result.now ≡ length c.columns-2.result.now = search rules in
    record { same_width = ap count (sym c.columns.ensures.columns) ∙ count-trees_of c.columns.result.now ∙ lengths ∙ sym (count-trees_of c.columns-2.result.now) ∙ ap count c.columns-2.ensures.columns }

pub returns : goal.returns
returns c = record {
  width = width c;
  covers = c.in_ok-covers.ensures.0 (search rules);
  apart = λ k. absurd (cc (sym c.if-branch.false ∙ (c.in_ok-covers-2.ensures.1 k)));
}
