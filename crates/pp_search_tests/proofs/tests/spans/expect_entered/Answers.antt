use Rattle.std.proofs.Common.{ap, sym, ◌∙◌, arith}
use Rattle.pp_algebra.specs.Terms.{Trees, count}
use Rattle.pp_unify.specs.States.{present}
use Rattle.pp_unify.proofs.Overs.{forest_there}
use Rattle.pp_unify.proofs.Whole.{whole_forest, whole_one, whole_over}
use Rattle.pp_search_tests.proofs.tests.spans.expect_entered.Goals as goal

pub enter-requires-clause-goal_whole : goal.enter-requires-clause-goal_whole
enter-requires-clause-goal_whole g c = whole_forest c.over-one.result c.cells-own.result.now c.cells-own.ensures.cells c.cells-own.ensures.term

pub enter-requires-clause-head_whole : goal.enter-requires-clause-head_whole
enter-requires-clause-head_whole g c = whole_forest c.term-other.result c.cells-new.result.now c.cells-new.ensures.cells c.cells-new.ensures.term

pub enter-requires-clause-width : goal.enter-requires-clause-width
enter-requires-clause-width g c = ap (λ (ts : Trees _). count ts) (whole_one c.term-other.result c.cells-new.result.now c.cells-new.ensures.cells) ∙ sym (ap (λ (ts : Trees _). count ts) (whole_one c.over-one.result c.cells-own.result.now c.cells-own.ensures.cells))

pub enter-requires-clause-goal : goal.enter-requires-clause-goal
enter-requires-clause-goal g c = whole_over (present c.args.bindings.now) c.over-one.result c.cells-own.result.now _ c.cells-own.ensures.cells c.over-one.ensures

pub enter-requires-clause-head : goal.enter-requires-clause-head
enter-requires-clause-head g c = λ v i.
    let f = whole_forest c.term-other.result c.cells-new.result.now c.cells-new.ensures.cells c.cells-new.ensures.term in
    let h = forest_there 0 c.args.amount c.cells-new.result.now f (c.all_there.ensures.0 c.if-all_there.true) v i in
    omega (arith, h)
