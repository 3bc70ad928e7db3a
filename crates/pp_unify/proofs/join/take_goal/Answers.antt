use Rattle.std.proofs.Common.{◌+◌, refl, sym, subst}
use Rattle.pp_row.specs.Reading.{from}
use Rattle.pp_unify.specs.Forests.{counted_all}
use Rattle.pp_unify.specs.Taking.{ArePassed, AreThis}
use Rattle.pp_unify.proofs.HeadSteps.{leaf_next}
use Rattle.pp_unify.proofs.Walking.{goal_is, goal_passed, goal_apart}
use Rattle.pp_unify.proofs.join.take_goal.Goals as goal

pub returns-then-are_alike-clause-taken : goal.returns-then-are_alike-clause-taken
returns-then-are_alike-clause-taken c =
    let a = c.args.state.now in
    let n = c.args.first in
    let goal = c.args.goal.now in
    let k = c.if-are_alike.ensures refl in
    subst (λ x. ArePassed a (counted_all n (from goal c.args.at)) (counted_all n (from goal x)) c.args.head.now c.args.next) (sym c.next_cell.ensures)
    (goal_passed n goal c.args.at c.requires.goal.forest c.requires.within c.args.head.now c.args.next c.requires.head c.requires.head_within a k.0 k.1)

pub returns-then-are_apart-clause-taken : goal.returns-then-are_apart-clause-taken
returns-then-are_apart-clause-taken c =
    let k = c.if-are_apart.ensures refl in
    goal_apart c.args.first c.args.goal.now c.args.at c.requires.goal.forest c.requires.within c.args.head.now c.args.next c.requires.head c.requires.head_within k.0 k.1 k.2

pub returns-in-Some-clause-taken : goal.returns-in-Some-clause-taken
returns-in-Some-clause-taken c =
    let a = c.args.state.now in
    let n = c.args.first in
    let goal = c.args.goal.now in
    let at = c.args.at in
    let f = c.requires.goal.forest in
    let l = c.requires.within in
    let t = rw c.in-Some.is at c.leaf.ensures in
    subst (λ x. AreThis a (counted_all n (from goal at)) (counted_all n (from goal x)) c.in-Some.value) (sym c.next_cell-in-Some.ensures)
    (goal_is n goal at f l a c.in-Some.value (at + 1) (leaf_next goal at f l t.plain) t.value)

pub returns-in_ok-value-in-None-clause-taken : goal.returns-in_ok-value-in-None-clause-taken
returns-in_ok-value-in-None-clause-taken c =
    goal_is c.args.first c.args.goal.now c.args.at c.requires.goal.forest c.requires.within c.goal_compound.new.state c.in_ok-value-in-None.value c.end_of-end.result c.end_of-end.ensures.ends c.in_ok-value-in-None.ensures.value
