use Rattle.std.proofs.Common.{◌≡◌, ◌+◌, ◌<◌, suc, length, Some, ap, sym, ◌∙◌, arith}
use Rattle.pp_algebra.specs.Least.{rest}
use Rattle.pp_clause.specs.Firsts.{may_be}
use Rattle.pp_goal.specs.Apart.{top_by}
use Rattle.pp_goal.specs.Arguments.{after}
use Rattle.pp_goal.proofs.Apart.{apart_here}
use Rattle.pp_row.specs.Reading.{forest}
use Rattle.pp_heap.specs.Values.{cell_at}
use Rattle.pp_unify.specs.States.{present}
use Rattle.pp_unify.proofs.HeadSteps.{leaf_next}
use Rattle.pp_goal.proofs.matching.may_match.Goals as goal

pub returns-then-are_apart : goal.returns-then-are_apart
returns-then-are_apart c e =
    let gs = c.args.goal.now.arguments.now in
    let hs = c.args.head.now in
    let l : c.loop-at.at < length gs = omega (arith, c.min-at-end.ensures, c.loop-at-test.true) in
    let m : c.loop-at.at < length hs = omega (arith, c.min-at-end.ensures, c.loop-at-test.true) in
    let d = ap (λ k. may_be (top_by k) (top_by (Some (cell_at hs c.loop-at.at)))) (sym c.first_cell.ensures) ∙ c.are_apart.ensures c.if-are_apart.true in
    apart_here (present c.args.bindings.now) c.args.first gs hs c.loop-at.at c.requires.lent.whole c.requires.head l m c.loop-at.invariant.goal c.loop-at.invariant.head d

pub loop-at-preserved : goal.loop-at-preserved
loop-at-preserved c =
    let gs = c.args.goal.now.arguments.now in
    let hs = c.args.head.now in
    let k = c.loop-at.at in
    let l : k < length gs = omega (arith, c.min-at-end.ensures, c.loop-at-test.true) in
    let m : k < length hs = omega (arith, c.min-at-end.ensures, c.loop-at-test.true) in
    let z : suc k ≡ k + 1 = omega arith in
    record {
      goal = leaf_next gs k c.requires.lent.whole l (c.is_compound.ensures c.if-is_compound.false) ∙ ap rest c.loop-at.invariant.goal ∙ ap (λ j. after j (forest gs)) z;
      head = leaf_next hs k c.requires.head m (c.is_compound-else-is_compound.ensures c.if-is_compound-2.false) ∙ ap rest c.loop-at.invariant.head ∙ ap (λ j. after j (forest hs)) z;
    }
