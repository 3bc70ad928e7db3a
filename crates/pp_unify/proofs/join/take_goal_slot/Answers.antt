use Rattle.std.proofs.Common.{◌+◌, sym, subst}
use Rattle.pp_row.specs.Reading.{from}
use Rattle.pp_unify.specs.Forests.{counted_all}
use Rattle.pp_unify.specs.Taking.{AreThis}
use Rattle.pp_unify.proofs.HeadSteps.{leaf_next}
use Rattle.pp_unify.proofs.Walking.{goal_is}
use Rattle.pp_unify.proofs.join.take_goal_slot.Goals as goal

pub returns-in-Some-clause-taken : goal.returns-in-Some-clause-taken
returns-in-Some-clause-taken c =
    let a = c.args.state.now in
    let n = c.args.first in
    let goal = c.args.goal.now in
    let at = c.args.at in
    let f = c.requires.goal.forest in
    let l = c.requires.within in
    let t = rw c.in-Some.is at c.leaf_slot.ensures in
    let v = t.slot in (
      v.0,
      v.1,
      subst (λ x. AreThis a (counted_all n (from goal at)) (counted_all n (from goal x)) v.0) (sym c.next_cell.ensures)
          (goal_is n goal at f l a v.0 (at + 1) (leaf_next goal at f l t.plain) v.2),
    )

pub returns-in_ok-value-in-None-clause-taken : goal.returns-in_ok-value-in-None-clause-taken
returns-in_ok-value-in-None-clause-taken c =
    let v = c.in_ok-value-in-None.value in
    (v, c.slot.ensures, goal_is c.args.first c.args.goal.now c.args.at c.requires.goal.forest c.requires.within c.goal_compound.new.state v c.end_of-end.result c.end_of-end.ensures.ends c.in_ok-value-in-None.ensures.value)
