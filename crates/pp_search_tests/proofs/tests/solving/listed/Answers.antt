use Rattle.std.specs.Prelude.{is_ok}
use Rattle.std.proofs.Common.{sym, subst, All}
use Rattle.pp_unify.specs.States.{present, IsOver}
use Rattle.pp_search_tests.proofs.Pushed.{all_pushed}
use Rattle.pp_search_tests.proofs.tests.solving.listed.Goals as goal

pub loop-cells-preserved : goal.loop-cells-preserved
loop-cells-preserved g c =
    let r = present c.args.bindings.now in
    subst (All (IsOver r)) (sym c.push.ensures.items) (all_pushed (IsOver r) (is_ok c.push.result) c.loop-cells.terms.items c.own.result c.loop-cells.invariant c.own.ensures)
