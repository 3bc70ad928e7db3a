use Rattle.std.proofs.Common.{◌+◌, length, pos, arith, ap, sym, ◌∙◌, [], ◌∷◌, refl}
use Rattle.std.proofs.lemmas.List.Elements.{All-nil, All-push, All-get_or}
use Rattle.pp_algebra.specs.Least.{least_tree}
use Rattle.pp_algebra.specs.Terms.{put, count}
use Rattle.pp_row.specs.declared.cell.Cell.TheVariants.{Int}
use Rattle.pp_row.specs.Cells.{IsLegalCell}
use Rattle.pp_lgg.specs.Pairs.{names, placed}
use Rattle.pp_row.proofs.InStep.{is_forest, from_start, right_too, count_cell, count_term}
use Rattle.pp_lgg.proofs.Steps.{past_cell, past_pair, at_start, at_end, is_made, made}
use Rattle.pp_lgg.proofs.walk.joined.Goals as goal

pub loop-i-init : goal.loop-i-init
loop-i-init c = record {
  left = omega arith;
  right = omega arith;
  same = ap count (from_start c.args.a.now c.cells-left.result.now c.cells-left.ensures.cells) ∙ sym (ap count (from_start c.args.b.now c.cells-right.result.now c.cells-right.ensures.cells));
  legal = rw c.new-cells.ensures.items (All-nil IsLegalCell);
  pairs = c.requires.pairs;
  walked = rw c.new-cells.ensures.items (at_start (names c.args.pairs.now.keys) c.args.a.now c.args.b.now c.cells-left.result.now c.cells-right.result.now c.cells-left.ensures.cells c.cells-right.ensures.cells);
}

pub bounds-right-j : goal.bounds-right-j
bounds-right-j c =
    let f = is_forest c.args.a.now c.cells-left.result.now c.cells-left.ensures.cells c.cells-left.ensures.term in
    let g = is_forest c.args.b.now c.cells-right.result.now c.cells-right.ensures.cells c.cells-right.ensures.term in
    right_too c.cells-left.result.now c.cells-right.result.now c.loop-i.i c.loop-i.j (Int (pos 0)) f g c.loop-i-test.true c.loop-i.invariant.same c.loop-i.invariant.right

pub loop-i-preserved-then-agree : goal.loop-i-preserved-then-agree
loop-i-preserved-then-agree c =
    let cs = c.cells-left.result.now in
    let ds = c.cells-right.result.now in
    let f = is_forest c.args.a.now cs c.cells-left.ensures.cells c.cells-left.ensures.term in
    let g = is_forest c.args.b.now ds c.cells-right.ensures.cells c.cells-right.ensures.term in
    let i = c.loop-i.invariant in
    let l = c.loop-i-test.true in
    let m = right_too cs ds c.loop-i.i c.loop-i.j (Int (pos 0)) f g l i.same i.right in
    let e = c.agree.ensures.0 c.if-agree.true in
    record {
      left = omega arith;
      right = omega (arith, m);
      same = count_cell cs ds c.loop-i.i c.loop-i.j (Int (pos 0)) f g l i.same m e.0;
      legal = rw c.in_ok-push.ensures.items (All-push IsLegalCell c.loop-i.cells.items _ i.legal (All-get_or IsLegalCell cs c.loop-i.i (Int (pos 0)) l f.legal));
      pairs = i.pairs;
      walked = rw c.in_ok-push.ensures.items (past_cell _ (names c.loop-i.pairs.keys) _ c.loop-i.cells.items cs ds c.loop-i.i c.loop-i.j (Int (pos 0)) f g l m i.walked e.0 e.1);
    }

pub term_from-requires-clause-whole : goal.term_from-requires-clause-whole
term_from-requires-clause-whole c = is_forest c.args.a.now c.cells-left.result.now c.cells-left.ensures.cells c.cells-left.ensures.term

pub term_from-requires-else-agree-clause-whole : goal.term_from-requires-else-agree-clause-whole
term_from-requires-else-agree-clause-whole c = is_forest c.args.b.now c.cells-right.result.now c.cells-right.ensures.cells c.cells-right.ensures.term

pub term_from-requires-else-agree-clause-within : goal.term_from-requires-else-agree-clause-within
term_from-requires-else-agree-clause-within c =
    let f = is_forest c.args.a.now c.cells-left.result.now c.cells-left.ensures.cells c.cells-left.ensures.term in
    let g = is_forest c.args.b.now c.cells-right.result.now c.cells-right.ensures.cells c.cells-right.ensures.term in
    right_too c.cells-left.result.now c.cells-right.result.now c.loop-i.i c.loop-i.j (Int (pos 0)) f g c.loop-i-test.true c.loop-i.invariant.same c.loop-i.invariant.right

pub loop-i-preserved : goal.loop-i-preserved
loop-i-preserved c =
    let cs = c.cells-left.result.now in
    let ds = c.cells-right.result.now in
    let f = is_forest c.args.a.now cs c.cells-left.ensures.cells c.cells-left.ensures.term in
    let g = is_forest c.args.b.now ds c.cells-right.ensures.cells c.cells-right.ensures.term in
    let i = c.loop-i.invariant in
    let l = c.loop-i-test.true in
    let m = right_too cs ds c.loop-i.i c.loop-i.j (Int (pos 0)) f g l i.same i.right in
    let x = c.term_from.ensures in
    let y = c.term_from-else-agree.ensures in
    record {
      left = x.within;
      right = y.within;
      same = ap count x.ends ∙ count_term cs ds c.loop-i.i c.loop-i.j (Int (pos 0)) f g l i.same m ∙ sym (ap count y.ends);
      legal = rw c.in_ok-push-2.ensures.items (All-push IsLegalCell c.loop-i.cells.items _ i.legal tt);
      pairs = c.in_ok-number.ensures.pairs;
      walked = rw c.in_ok-push-2.ensures.items (past_pair _ (names c.loop-i.pairs.keys) _ c.loop-i.cells.items cs ds c.loop-i.i c.loop-i.j (Int (pos 0)) f g l m i.walked (names c.number.new.pairs.keys) _ (c.loop-i.i + length c.term_from.result.now) (c.loop-i.j + length c.term_from-else-agree.result.now) c.in_ok-number.field-0 (λ a b. let z = c.agree.ensures.1 (a, b) in absurd (cc (z, c.if-agree.false))) (rw (x.term, y.term) refl) x.ends y.ends c.in_ok-number.ensures.names c.in_ok-number.ensures.place);
    }

pub unwrap-requires : goal.unwrap-requires
unwrap-requires c =
    let cs = c.cells-left.result.now in
    let f = is_forest c.args.a.now cs c.cells-left.ensures.cells c.cells-left.ensures.term in
    let e = at_end _ (names c.loop-i.pairs.keys) c.args.a.now c.args.b.now cs c.loop-i.cells.items _ c.loop-i.i f c.loop-i-test.false c.loop-i.invariant.left c.loop-i.invariant.walked in
    is_made (put (placed (names c.loop-i.pairs.keys)) (least_tree c.args.a.now (c.args.b.now ∷ []))) c.loop-i.cells.items e.1 c.from_cells.result c.loop-i.invariant.legal c.from_cells.ensures

pub returns-clause-names : goal.returns-clause-names
returns-clause-names c =
    let cs = c.cells-left.result.now in
    let f = is_forest c.args.a.now cs c.cells-left.ensures.cells c.cells-left.ensures.term in
    (at_end _ (names c.loop-i.pairs.keys) c.args.a.now c.args.b.now cs c.loop-i.cells.items _ c.loop-i.i f c.loop-i-test.false c.loop-i.invariant.left c.loop-i.invariant.walked).0

pub returns-clause-term : goal.returns-clause-term
returns-clause-term c =
    let cs = c.cells-left.result.now in
    let f = is_forest c.args.a.now cs c.cells-left.ensures.cells c.cells-left.ensures.term in
    let e = at_end _ (names c.loop-i.pairs.keys) c.args.a.now c.args.b.now cs c.loop-i.cells.items _ c.loop-i.i f c.loop-i-test.false c.loop-i.invariant.left c.loop-i.invariant.walked in
    made (put (placed (names c.loop-i.pairs.keys)) (least_tree c.args.a.now (c.args.b.now ∷ []))) c.loop-i.cells.items e.1 c.from_cells.result c.unwrap.result c.from_cells.ensures c.unwrap.ensures
